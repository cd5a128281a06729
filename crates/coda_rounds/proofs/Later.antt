-- The objects that a client will create stay free.
use Rattle.std.proofs.Common.{◌≡◌, ℕ, ◌+◌, ◌<◌, ◌==◌, true, false, cond, List, [], ◌∷◌, ◌++◌, Option, Some, None}
use Rattle.std.proofs.Common.{is_some, refl, sym, ap, ◌∙◌, subst, inl, inr, arith}
use Rattle.std.proofs.lemmas.Bool.{eqb-true, false≢true}
use Rattle.std.proofs.lemmas.Option.{none-some}
use Rattle.std.specs.FinMap as map
use Rattle.coda_fid.specs.declared.fid.Fid.{Fid}
use Rattle.coda_fid.specs.declared.op.Op.{Op}
use Rattle.coda_fid.specs.declared.op.Op.TheVariants.{Create, Mkdir, Symlink, Store, Setattr, Remove, Rmdir, Rename}
use Rattle.coda_fid.specs.declared.op.Record.{Record}
use Rattle.coda_fid.proofs.Fids.{fids_total, exact_fids}
use Rattle.coda_tree.specs.declared.node.Node.{Node}
use Rattle.coda_tree.proofs.Order.{fid_cases, get_else, gone_here, gone_else}
use Rattle.coda_plain.specs.Deeds.{created_by}
use Rattle.coda_cache.specs.Steps.{new_node}
use Rattle.coda_record.specs.declared.entry.ClientEntry.{ClientEntry}
use Rattle.coda_record.specs.declared.entry.ClientEntry.TheVariants as entry
use Rattle.coda_venus.specs.Accepting.{next_fid, sight_of}
use Rattle.coda_venus.specs.History.{Payload, MayEnter, MayEnterAll, MayOperate}
use Rattle.coda_venus.specs.State.{ClientVolume, ClientState, put, client_after, client_after_all}
use Rattle.coda_venus.proofs.Accepted.{accepted_relies}
use Rattle.coda_venus.specs.Serving.{ServingClient}
use Rattle.coda_venus.specs.Rounds.{RoundStep, Looked, Installed, Turned, Performed, Sources, dropping, entries_of_step}
use Rattle.coda_venus.specs.Rounds.{serving_after}
use Rattle.coda_rounds.specs.Later.{IsLater, AreLaterFree, ComesFrom, StepComesFrom, LaterObjectsStayFree}
use Rattle.coda_rounds.proofs.HeldBehind.{held_before}
use Rattle.coda_rounds.proofs.Performing.{made_next}

-- ---- how many objects a client created

-- a deed that creates none
count_same : (volumes : ℕ → ClientVolume) (at : ℕ) (v : ClientVolume) (volume : ℕ)
    → v.creations ≡ (volumes at).creations → (put volumes at v volume).creations ≡ (volumes volume).creations
count_same volumes at v volume same = (elim (volume == at) as (λ b. volume == at ≡ b → (cond b v (volumes volume)).creations ≡ (volumes volume).creations) [
  | true ↦ λ e. same ∙ ap (λ w. (volumes w).creations) (sym (eqb-true volume at e))
  | false ↦ λ e. refl
]) refl

-- one that creates some
count_more : (volumes : ℕ → ClientVolume) (at : ℕ) (v : ClientVolume) (more volume uniq : ℕ)
    → v.creations ≡ (volumes at).creations + more → (put volumes at v volume).creations < uniq
    → (volumes volume).creations < uniq
count_more volumes at v more volume uniq is = (elim (volume == at) as (λ b. volume == at ≡ b → (cond b v (volumes volume)).creations < uniq → (volumes volume).creations < uniq) [
  | true ↦ λ e less. (let same : (volumes volume).creations ≡ (volumes at).creations = ap (λ w. (volumes w).creations) (eqb-true volume at e) in omega (arith, is, less, same))
  | false ↦ λ e less. less
]) refl

count_here : (volumes : ℕ → ClientVolume) (at : ℕ) (v : ClientVolume) → put volumes at v at ≡ v
count_here volumes at v = (elim (at == at) as (λ b. at == at ≡ b → cond b v (volumes at) ≡ v) [
  | true ↦ λ e. refl
  | false ↦ λ e. absurd (false≢true (sym e ∙ itself at))
]) refl
  where
    itself : (n : ℕ) → n == n ≡ true
    itself n = grind arith

makes_one : (op : Op) (dir f : Fid) → new_node op ≡ Some (dir, f) → created_by op ≡ 1
makes_one (Create d name g mode owner) dir f e = refl
makes_one (Mkdir d name g mode owner) dir f e = refl
makes_one (Symlink d name g target mode owner) dir f e = refl
makes_one (Store g pre content) dir f e = absurd (none-some (dir, f) e)
makes_one (Setattr g pre attrs) dir f e = absurd (none-some (dir, f) e)
makes_one (Remove d name g pre) dir f e = absurd (none-some (dir, f) e)
makes_one (Rmdir d name g pre) dir f e = absurd (none-some (dir, f) e)
makes_one (Rename d name to_dir to g over) dir f e = absurd (none-some (dir, f) e)

-- ---- what a client would create later behind an entry it would create later before it

module _ (c : ClientState) (at : ℕ) (rec : Record) where
  abbrev operated_client : ClientState
  operated_client = client_after c (entry.Op at rec)

  operated_counts : (operated_client.volumes at).creations ≡ (c.volumes at).creations + created_by rec.op
  operated_counts = ap (λ (v : ClientVolume). v.creations) (count_here c.volumes at _)

  operated_later : (volume : ℕ) (f : Fid) → IsLater operated_client volume f → IsLater c volume f
  operated_later volume f later = (
    later.0,
    later.1,
    count_more c.volumes at (operated_client.volumes at) (created_by rec.op) volume f.uniq operated_counts
        (subst (λ (v : ClientVolume). v.creations < f.uniq) same later.2),
  )
    where
      same : operated_client.volumes volume ≡ put c.volumes at (operated_client.volumes at) volume
      same = ap (λ (v : ClientVolume). put c.volumes at v volume) (sym (count_here c.volumes at _))

-- a deed that creates nothing
alike_later : (c other : ClientState) (volume : ℕ) (f : Fid) → other.number ≡ c.number
    → (other.volumes volume).creations ≡ (c.volumes volume).creations → IsLater other volume f → IsLater c volume f
alike_later c other volume f number count later =
    (later.0, later.1 ∙ number, subst (λ n. n < f.uniq) count later.2)

later_before : (c : ClientState) (next : ClientEntry) (volume : ℕ) (f : Fid) → IsLater (client_after c next) volume f
    → IsLater c volume f
later_before c (entry.Op at rec) volume f later = operated_later c at rec volume f later
later_before c (entry.Freeze at number home last_one) volume f later =
    alike_later c (client_after c (entry.Freeze at number home last_one)) volume f refl
    (count_same c.volumes at _ volume refl) later
later_before c (entry.Settled at number verdict) volume f later =
    alike_later c (client_after c (entry.Settled at number verdict)) volume f refl
    (count_same c.volumes at _ volume refl) later
later_before c (entry.Giveup at) volume f later =
    alike_later c (client_after c (entry.Giveup at)) volume f refl (count_same c.volumes at _ volume refl) later
later_before c (entry.Fetched fid parent node) volume f later = later
later_before c (entry.Dropped fid) volume f later = later
later_before c (entry.Hoard change) volume f later = later
later_before c (entry.Snapshot snapshot) volume f later = later

pub later_before_all : (c : ClientState) (entries : Payload) (volume : ℕ) (f : Fid)
    → IsLater (client_after_all c entries) volume f → IsLater c volume f
later_before_all c [] volume f later = later
later_before_all c (next ∷ entries) volume f later =
    later_before c next volume f (later_before_all (client_after c next) entries volume f later)

-- ---- an entry

not_there : (o : Option Node) → (is_some o ≡ true → ⊥) → o ≡ None
not_there None never = refl
not_there (Some node) never = absurd (never refl)

module _ (sources : Sources) (c : ClientState) (volume : ℕ) (free : AreLaterFree sources c volume) where
  -- the client's own operation, in whatever volume
  module _ (at : ℕ) (rec : Record) (may : MayOperate c at rec) where
    abbrev behind : ClientState
    behind = client_after c (entry.Op at rec)

    was_later : (f : Fid) → IsLater behind volume f → IsLater c volume f
    was_later f later = operated_later c at rec volume f later

    made_counts : (f dir : Fid) → IsLater behind volume f → new_node rec.op ≡ Some (dir, f) → ⊥
    made_counts f dir later made =
        let next = made_next (sight_of c at) at rec.op dir f (accepted_relies (sight_of c at) at may.ask rec.op may.accepted) made in
        let own : f.uniq ≡ (c.volumes at).creations + 1 = ap (λ (x : Fid). x.uniq) next in
        let here : volume ≡ at = sym later.0 ∙ ap (λ (x : Fid). x.volume) next in
        let counted : (behind.volumes volume).creations ≡ (c.volumes at).creations + created_by rec.op = ap (λ w. (behind.volumes w).creations) here ∙ ap (λ (v : ClientVolume). v.creations) (count_here c.volumes at _) in
        let one : created_by rec.op ≡ 1 = makes_one rec.op dir f made in
        let less = later.2 in
        omega (arith, own, counted, one, less)

    operated : AreLaterFree sources behind volume
    operated = record {
      here = λ f later. not_there (map.get behind.held.nodes f) (λ there. elim (held_before c.held c.number rec f there).1 [
        | inl was ↦ false≢true (ap is_some (sym (free.here f (was_later f later))) ∙ was)
        | inr made ↦ made_counts f made.0 later made.1
      ]);
      there = λ f later. free.there f (was_later f later);
    }

  -- a deed that creates nothing
  counted_alike : (other : ClientState) → other.number ≡ c.number → (other.volumes volume).creations ≡ (c.volumes volume).creations
      → ((f : Fid) → IsLater c volume f → map.get other.held.nodes f ≡ None) → AreLaterFree sources other volume
  counted_alike other number count none = record {
    here = λ f later. none f (was f later);
    there = λ f later. free.there f (was f later);
  }
    where
      was : (f : Fid) → IsLater other volume f → IsLater c volume f
      was f later = alike_later c other volume f number count later

  pub later_entered : (next : ClientEntry) → MayEnter c next → ComesFrom sources next
      → AreLaterFree sources (client_after c next) volume
  later_entered (entry.Op at rec) may comes = operated at rec may
  later_entered (entry.Freeze at number home last) may comes =
      counted_alike _ refl (count_same c.volumes at _ volume refl) free.here
  later_entered (entry.Settled at number verdict) may comes =
      counted_alike _ refl (count_same c.volumes at _ volume refl) free.here
  later_entered (entry.Giveup at) may comes = counted_alike _ refl (count_same c.volumes at _ volume refl) free.here
  later_entered (entry.Fetched fid parent node) may comes = counted_alike _ refl refl (λ f later. elim (fid_cases f fid) [
    | inl same ↦ absurd (free.there f later (node, comes.0) (ap sources same ∙ comes.1))
    | inr off ↦ get_else fids_total exact_fids c.held.nodes fid node f off ∙ free.here f later
  ])
  later_entered (entry.Dropped fid) may comes = counted_alike _ refl refl (λ f later. elim (fid_cases f fid) [
    | inl same ↦ ap (map.get (map.remove c.held.nodes fid)) same ∙ gone_here fids_total c.held.nodes fid
    | inr off ↦ gone_else fids_total exact_fids c.held.nodes fid f off ∙ free.here f later
  ])
  later_entered (entry.Hoard change) may comes = absurd may
  later_entered (entry.Snapshot snapshot) may comes = absurd may

-- ---- a step

behind_drops : (sources : Sources) (c : ClientState) (volume : ℕ) (gone : List Fid) (last : ClientEntry)
    → AreLaterFree sources c volume → MayEnterAll c (dropping gone ++ last ∷ []) → ComesFrom sources last
    → AreLaterFree sources (client_after_all c (dropping gone ++ last ∷ [])) volume
behind_drops sources c volume [] last free may comes = later_entered sources c volume free last may.0 comes
behind_drops sources c volume (g ∷ gone) last free may comes =
    behind_drops sources (client_after c (entry.Dropped g)) volume gone last
    (later_entered sources c volume free (entry.Dropped g) may.0 tt) may.1 comes

later_stepped : (sources : Sources) (s : ServingClient) (step : RoundStep) (volume : ℕ)
    → AreLaterFree sources s.client volume → MayEnterAll s.client (entries_of_step step) → StepComesFrom sources step
    → AreLaterFree sources (serving_after s step).client volume
later_stepped sources s (Looked fids) volume free may comes = free
later_stepped sources s (Turned fid server) volume free may comes = free
later_stepped sources s (Installed gone fid parent node server) volume free may comes =
    behind_drops sources s.client volume gone (entry.Fetched fid parent node) free may (server, comes)
later_stepped sources s (Performed gone at rec) volume free may comes =
    behind_drops sources s.client volume gone (entry.Op at rec) free may tt

pub next_later : (c : ClientState) (volume : ℕ) → IsLater c volume (next_fid (sight_of c volume) volume)
next_later c volume = (refl, refl, omega arith)

pub later_objects_stay_free : LaterObjectsStayFree
later_objects_stay_free = record {
  next = λ sources s volume free. (
    free.here _ (next_later s.client volume),
    free.there _ (next_later s.client volume),
  );
  entered = λ sources c next volume free may comes. later_entered sources c volume free next may comes;
  stepped = later_stepped;
}
