-- What is pending stands where it was made.
use Rattle.std.proofs.Common.{◌≡◌, ◌≢◌, ℕ, Bool, true, if◌then◌else◌, List, [], ◌∷◌, ◌++◌, Option, Some, None}
use Rattle.std.proofs.Common.{append_assoc, append-nil, is_some, refl, sym, ap, ◌∙◌, subst, ⊎_elim, inl, inr}
use Rattle.std.proofs.lemmas.Bool.{eq-eqb, ne_eqb, cases_eq, or_left, or_right, or_cases, false≢true}
use Rattle.std.proofs.lemmas.Bool.{false_from_ne_true}
use Rattle.std.proofs.lemmas.List.{take-append-drop}
use Rattle.std.proofs.lemmas.Option.{none-some}
use Rattle.std.specs.FinMap as map
use Rattle.coda_fid.specs.declared.fid.Fid.{Fid}
use Rattle.coda_fid.specs.declared.op.Op.{Op}
use Rattle.coda_fid.specs.declared.op.Record.{Record}
use Rattle.coda_fid.proofs.Fids.{fids_total, exact_fids}
use Rattle.coda_tree.specs.declared.node.Node.{Node}
use Rattle.coda_tree.proofs.Order.{fid_cases, get_here, get_else, gone_else}
use Rattle.coda_cancel.specs.Cancel.{add}
use Rattle.coda_cancel.specs.Dropping.{mentioning}
use Rattle.coda_certify.specs.declared.verdict.Verdict.{Verdict}
use Rattle.coda_certify.specs.declared.verdict.Verdict.TheVariants.{Applied, Conflict}
use Rattle.coda_cml.specs.State.{LogState}
use Rattle.coda_cml.specs.Steady.{any_record, makes_in, unbinds}
use Rattle.coda_cml.specs.Steps.{appended_to, frozen_at, settled, given_up, records_in}
use Rattle.coda_cml.specs.declared.frozen.Frozen.{Frozen}
use Rattle.coda_cml.proofs.runs.InStep.{only_made_of}
use Rattle.coda_cml.proofs.runs.StillThere.{creates_mentions}
use Rattle.coda_cml.proofs.runs.WithoutObject.{any-append, makes_parts}
use Rattle.coda_journal.specs.declared.header.Header.{Header}
use Rattle.coda_plain.specs.Deeds.{Deed, Operated, Froze, Settled as Settles, Gaveup}
use Rattle.coda_plain.specs.Histories.{DoFollow}
use Rattle.coda_plain.proofs.Lists.{along}
use Rattle.coda_record.specs.declared.entry.ClientEntry.{ClientEntry}
use Rattle.coda_record.specs.declared.entry.ClientEntry.TheVariants.{Op as Operation, Freeze, Settled, Giveup}
use Rattle.coda_record.specs.declared.entry.ClientEntry.TheVariants.{Fetched, Dropped, Hoard, Snapshot}
use Rattle.coda_venus.specs.Accepting.{is_mentioned}
use Rattle.coda_venus.specs.Held.{Parents, held_after_operation, held_after_fetch, held_after_drop}
use Rattle.coda_venus.specs.History.{Payload, MayBeParent, IsDirty, IsHistory, IsParent, MayEnter, MayEnterAll}
use Rattle.coda_venus.specs.History.{MayFollow, MayOperate, state_of}
use Rattle.coda_venus.specs.State.{ClientVolume, ClientState, put, after_deed, volume_after, client_after}
use Rattle.coda_venus.specs.State.{client_after_all}
use Rattle.coda_venus.specs.State.{new_client}
use Rattle.coda_venus.proofs.KeptLogs.{state_push}
use Rattle.coda_rounds.specs.Places.{AreHeld, AreInDirs, KeepsToVolume, AreInVolumes, IsInVolumes, StayThere}
use Rattle.coda_rounds.specs.Places.{IsPlacedLog}
use Rattle.coda_rounds.specs.Places.{ArePlaced, ObjectsStandWhereMade}
use Rattle.coda_rounds.proofs.PlacedRecords.{comes_behind, add_comes, added_comes, there_behind, stands_there}
use Rattle.coda_rounds.proofs.PlacedRecords.{same_places, more_places, unbinds_mentions}
use Rattle.coda_rounds.proofs.NewClient.{no_parent}
use Rattle.coda_rounds.proofs.KeptParents.{operated_kept, fetched_kept, dropped_kept}
use Rattle.coda_rounds.proofs.PlacedOperation.{stays_put, made_there}

-- ---- logs

module _ (volume : ℕ) (parents : Parents) where
  abbrev Placed : LogState → Type 0
  Placed = IsPlacedLog volume parents

  frozen_placed : (log : LogState) (length : ℕ) (chunk : Frozen) → Placed log → Placed (frozen_at log length chunk)
  frozen_placed log length chunk p = record {
    thaws = λ e. absurd (none-some chunk (sym e));
    stay = subst (StayThere volume parents) (sym (take-append-drop (records_in length log) log.records)) (there_behind volume parents log.chunk log.records p.stay);
  }

  settled_placed : (verdict : Verdict) (log : LogState) → Placed log → Placed (settled verdict log)
  settled_placed Applied log p = record { thaws = λ e. refl; stay = there_behind volume parents log.chunk log.records p.stay }
  settled_placed (Conflict number why) log p = record { thaws = λ e. refl; stay = (added_comes volume parents log.chunk log.records).there p.stay }

  given_up_placed : (log : LogState) → Placed log → log.frozen ≡ None → Placed (given_up log)
  given_up_placed log p none = record { thaws = p.thaws; stay = subst (λ (l : List Record). StayThere volume parents (l ++ [])) (sym (p.thaws none)) tt }

-- ---- other parents

weaker : (test wider : Op → Bool) → ((op : Op) → test op ≡ true → wider op ≡ true) → (recs : List Record)
    → any_record test recs ≡ true → any_record wider recs ≡ true
weaker test wider is [] some = absurd (false≢true some)
weaker test wider is (rec ∷ recs) some = ⊎_elim
    (λ (a : test rec.op ≡ true). or_left (wider rec.op) _ (is rec.op a))
    (λ (b : any_record test recs ≡ true). or_right (wider rec.op) _ (weaker test wider is recs b))
    (or_cases (test rec.op) (any_record test recs) some)

-- what a log made is mentioned
made_mentioned : (v : ClientVolume) (dir f : Fid) → any_record (makes_in dir f) (v.log.chunk ++ v.log.records) ≡ true
    → is_mentioned v f ≡ true
made_mentioned v dir f makes =
    sym (any-append (mentioning f) v.log.chunk v.log.records)
    ∙ weaker (makes_in dir f) (mentioning f) (λ op m. creates_mentions f op (makes_parts dir f op m).1)
    (v.log.chunk ++ v.log.records) makes

-- the parents of what each log mentions stay
abbrev StayUnder : ClientState → Parents → Type 0
StayUnder c later = (dir f : Fid) → IsDirty c f → map.get c.held.parents f ≡ Some dir → map.get later f ≡ Some dir

of_volume : (c : ClientState) (volume : ℕ) (f : Fid) → f.volume ≡ volume → is_mentioned (c.volumes volume) f ≡ true
    → IsDirty c f
of_volume c volume f of there = ap (λ v. is_mentioned (c.volumes v) f) of ∙ there

placed_under : (c : ClientState) (later : Parents) → ArePlaced c → StayUnder c later
    → (volume : ℕ) → IsPlacedLog volume later (c.volumes volume).log
placed_under c later p stays volume = record {
  thaws = (p.logs volume).thaws;
  stay = same_places volume c.held.parents later ((c.volumes volume).log.chunk ++ (c.volumes volume).log.records)
      (λ dir f makes of at. stays dir f (of_volume c volume f of (made_mentioned (c.volumes volume) dir f makes)) at)
      (p.logs volume).stay;
}

put_placed : (f : ℕ → ClientVolume) (parents : Parents) (volume : ℕ) (v : ClientVolume)
    → ((q : ℕ) → q ≢ volume → IsPlacedLog q parents (f q).log) → IsPlacedLog volume parents v.log
    → (q : ℕ) → IsPlacedLog q parents (put f volume v q).log
put_placed f parents volume v all is q = elim (cases_eq q volume) [
  | inl same ↦
      subst (λ (w : ClientVolume). IsPlacedLog q parents w.log)
      (sym (ap (λ b. if b then v else f q) (eq-eqb q volume same)))
      (subst (λ n. IsPlacedLog n parents v.log) (sym same) is)
  | inr other ↦
      subst (λ (w : ClientVolume). IsPlacedLog q parents w.log)
      (sym (ap (λ b. if b then v else f q) (ne_eqb q volume other))) (all q other)
]

-- ---- operations

module _ (c : ClientState) (volume : ℕ) (rec : Record) (may : MayOperate c volume rec) (dirs : AreInDirs c.held) (own : (f : Fid) → mentioning f rec.op ≡ true → f.volume ≡ volume) (p : ArePlaced c) where
  abbrev later : Parents
  later = (held_after_operation c.held c.number rec).parents

  abbrev log : LogState
  log = (c.volumes volume).log

  -- what another volume's log made isn't mentioned
  elsewhere : (q : ℕ) → q ≢ volume → IsPlacedLog q later (c.volumes q).log
  elsewhere q other = record {
    thaws = (p.logs q).thaws;
    stay = same_places q c.held.parents later ((c.volumes q).log.chunk ++ (c.volumes q).log.records)
        (λ dir f makes of at. (stays_put c volume rec may p.held dirs own f dir
        (of_volume c q f of (made_mentioned (c.volumes q) dir f makes)) at
        (false_from_ne_true (unbinds f rec.op) (λ takes. other (sym of ∙ own f (unbinds_mentions f rec.op takes))))).0)
        (p.logs q).stay;
  }

  all_there : StayThere volume later ((log.chunk ++ log.records) ++ rec ∷ [])
  all_there = more_places volume c.held.parents later (log.chunk ++ log.records) rec
      (λ dir f makes of at stays. stays_put c volume rec may p.held dirs own f dir
      (of_volume c volume f of (made_mentioned (c.volumes volume) dir f makes)) at stays)
      (λ dir f makes. (
        own f (creates_mentions f rec.op (makes_parts dir f rec.op makes).1),
        made_there c.held c.number rec dir f makes,
      ))
      (p.logs volume).stay

  here : IsPlacedLog volume later (appended_to log rec)
  here = record {
    thaws = (p.logs volume).thaws;
    stay = subst (λ l. StayThere volume later (log.chunk ++ l)) (append-nil (add log.records rec))
        ((comes_behind volume later log.chunk (log.records ++ rec ∷ []) (add log.records rec ++ [])
        (add_comes volume later log.records [] rec)).there
        (subst (StayThere volume later) (append_assoc log.chunk log.records (rec ∷ [])) all_there));
  }

  operated_placed : (q : ℕ)
      → IsPlacedLog q later (put c.volumes volume (volume_after (c.volumes volume) (Operated rec)) q).log
  operated_placed = put_placed c.volumes later volume (volume_after (c.volumes volume) (Operated rec)) elsewhere here

-- ---- what is fetched or dropped

fetched_stays : (c : ClientState) (fid : Fid) (parent : Option Fid) (node : Node) → AreHeld c.held
    → IsParent c.held fid parent → StayUnder c (held_after_fetch c.held fid parent node).parents
fetched_stays c fid None node kept is dir f dirty at = at
fetched_stays c fid (Some under) node kept is dir f dirty at = elim (fid_cases f fid) [
  | inl same ↦ ⊎_elim
      (λ (own : map.get c.held.parents fid ≡ Some under).
      ap (map.get (map.insert c.held.parents fid under)) same ∙ get_here fids_total c.held.parents fid under
      ∙ sym own ∙ ap (map.get c.held.parents) (sym same) ∙ at)
      (λ (new : (map.get c.held.nodes fid ≡ None) × MayBeParent c.held.nodes fid under).
      absurd (false≢true (ap is_some (sym new.0) ∙ ap (λ g. is_some (map.get c.held.nodes g)) (sym same)
      ∙ kept f dir at)))
      is
  | inr other ↦ get_else fids_total exact_fids c.held.parents fid under f other ∙ at
]

dropped_stays : (c : ClientState) (fid : Fid) → (¬ IsDirty c fid) → StayUnder c (held_after_drop c.held fid).parents
dropped_stays c fid clean dir f dirty at = elim (fid_cases f fid) [
  | inl same ↦ absurd (clean (subst (IsDirty c) same dirty))
  | inr other ↦ gone_else fids_total exact_fids c.held.parents fid f other ∙ at
]

-- ---- entries

-- a client of which one log changed
log_placed : (c : ClientState) (volume : ℕ) (deed : Deed) → ArePlaced c
    → IsPlacedLog volume c.held.parents (volume_after (c.volumes volume) deed).log
    → ArePlaced (after_deed c volume deed)
log_placed c volume deed p is = record {
  held = p.held;
  logs = put_placed c.volumes c.held.parents volume (volume_after (c.volumes volume) deed) (λ q other. p.logs q) is;
}

entered_placed : (c : ClientState) (next : ClientEntry) → ArePlaced c → AreInDirs c.held → KeepsToVolume next
    → MayEnter c next → ArePlaced (client_after c next)
entered_placed c (Operation volume rec) p dirs own may = record {
  held = operated_kept c volume rec may p.held;
  logs = operated_placed c volume rec may dirs own p;
}
entered_placed c (Freeze volume number home last) p dirs own may =
    log_placed c volume (Froze number home last) p
    (frozen_placed volume c.held.parents (c.volumes volume).log _ _ (p.logs volume))
entered_placed c (Settled volume number verdict) p dirs own may =
    log_placed c volume (Settles number verdict) p
    (settled_placed volume c.held.parents verdict (c.volumes volume).log (p.logs volume))
entered_placed c (Giveup volume) p dirs own may =
    log_placed c volume Gaveup p
    (given_up_placed volume c.held.parents (c.volumes volume).log (p.logs volume) may.0)
entered_placed c (Fetched fid parent node) p dirs own may = record {
  held = fetched_kept c.held fid parent node p.held;
  logs = placed_under c (held_after_fetch c.held fid parent node).parents p
      (fetched_stays c fid parent node p.held may.1);
}
entered_placed c (Dropped fid) p dirs own may = record {
  held = dropped_kept c.held fid p.held;
  logs = placed_under c (held_after_drop c.held fid).parents p (dropped_stays c fid may.1);
}
entered_placed c (Hoard change) p dirs own may = p
entered_placed c (Snapshot snapshot) p dirs own may = p

all_placed : (c : ClientState) (entries : Payload) → ArePlaced c → AreInVolumes c entries → MayEnterAll c entries
    → ArePlaced (client_after_all c entries)
all_placed c [] p within may = p
all_placed c (next ∷ entries) p within may =
    all_placed (client_after c next) entries (entered_placed c next p within.0 within.1 may.0) within.2 may.1

-- ---- histories

new_placed : (number blocks : ℕ) → ArePlaced (new_client number blocks)
new_placed number blocks = record {
  held = λ f p at. absurd (no_parent f p at);
  logs = λ volume. record { thaws = λ e. refl; stay = tt };
}

module _ (header : Header) where
  abbrev MayComeInVolumes : List Payload → Payload → Type 0
  MayComeInVolumes past payload = MayFollow header past payload × AreInVolumes (state_of header past) payload

  both_follow : (past history : List Payload) → DoFollow (MayFollow header) past history
      → DoFollow (λ past payload. AreInVolumes (state_of header past) payload) past history
      → DoFollow MayComeInVolumes past history
  both_follow past [] may within = tt
  both_follow past (payload ∷ history) may within =
      ((may.0, within.0), both_follow (past ++ payload ∷ []) history may.1 within.1)

  one_more : (past : List Payload) (payload : Payload) → ArePlaced (state_of header past)
      → MayComeInVolumes past payload → ArePlaced (state_of header (past ++ payload ∷ []))
  one_more past payload p may =
      subst ArePlaced (sym (state_push header past payload))
      (all_placed (state_of header past) payload p may.1 may.0.0)

  always_placed : (history : List Payload) → IsHistory header history → IsInVolumes header history
      → ArePlaced (state_of header history)
  always_placed history law within =
      along MayComeInVolumes (λ past. ArePlaced (state_of header past)) one_more history
      (new_placed header.number header.cache) (both_follow [] history law within)

pub objects_stand_where_made : ObjectsStandWhereMade
objects_stand_where_made = record {
  first = new_placed;
  then_too = entered_placed;
  stand = λ s volume p dir f undone makes.
      let log = (s.client.volumes volume).log in
      stands_there volume s.client.held.parents dir f log.records (only_made_of f log.records undone) makes
      (there_behind volume s.client.held.parents log.chunk log.records (p.logs volume).stay);
  always = always_placed;
}
