-- In which state a client is on a volume, as a line shows it.
use Rattle.std.proofs.Common.{◌≡◌, ◌≢◌, ◌⊎◌, inl, inr, ℕ, ◌==◌, ◌&&◌, Bool, true, false, cond, List, [], ◌∷◌, length, Option, Some, None, refl, sym, ap, subst, ◌∙◌, arith}
use Rattle.std.proofs.lemmas.Bool.{eqb-true, and_parts}
use Rattle.std.specs.Prelude.{not, is_some}
use Rattle.coda_state.specs.Laws.{twice}
use Rattle.coda_state.specs.States.{settled_state}
use Rattle.coda_state.specs.declared.state.State.{State}
use Rattle.coda_state.specs.declared.state.State.TheVariants as before
use Rattle.coda_script.specs.declared.line.Line.TheVariants as line
use Rattle.coda_script.specs.declared.line.Strength.{Strength}
use Rattle.coda_script.specs.declared.line.Strength.TheVariants.{Strong, Weak, Down}
use Rattle.coda_script.specs.declared.reply.ClientState.{ClientState as ShownState}
use Rattle.coda_script.specs.declared.reply.ClientState.TheVariants.{Hoarding, Emulating, WriteDisconnected}
use Rattle.coda_script.specs.declared.reply.Reply.{Reply}
use Rattle.coda_script.specs.declared.reply.Reply.TheVariants.{State as StateReply}
use Rattle.coda_cell.specs.Refused.{Refused}
use Rattle.coda_cell.specs.State.{Event, log_of}
use Rattle.coda_cell.specs.States.{link_with, shown_state, is_empty, state_over}
use Rattle.coda_cell.specs.Steps.{Unless as UnlessRefused, ShowsState, on_volume, first_missing}
use Rattle.coda_shelves.specs.Cells.{Cell, state_of}
use Rattle.coda_shelves.specs.Lines.{UnlessDown, needs, is_down_for, meets, EndsBy, Happens, DoesUp, client_down, replica_down, is_cut, links_to}
use Rattle.coda_shelves.proofs.Ending.{nothing_ends}
use Rattle.coda_runs.specs.States.{IsStateOf, ShownStatesAreSettled}

-- ---- states, by a link that is down where the replica is

-- from whatever state, two looks settle the same one
settles : (state : State) (strength : Strength) (empty : Bool) → shown_state (settled_state (link_with strength) empty) ≡ shown_state (twice state (link_with strength) empty)
settles before.Hoarding Strong true = refl
settles before.Hoarding Strong false = refl
settles before.Hoarding Weak true = refl
settles before.Hoarding Weak false = refl
settles before.Hoarding Down empty = refl
settles before.Emulating Strong true = refl
settles before.Emulating Strong false = refl
settles before.Emulating Weak empty = refl
settles before.Emulating Down empty = refl
settles before.WriteDisconnected Strong true = refl
settles before.WriteDisconnected Strong false = refl
settles before.WriteDisconnected Weak empty = refl
settles before.WriteDisconnected Down empty = refl

abbrev state_by : Bool → Strength → Bool → ShownState
state_by fell strength empty = shown_state (settled_state (link_with (cond fell Down strength)) empty)

emulates : (fell : Bool) (strength : Strength) (empty : Bool) → (is_cut strength ≡ true) ⊎ (fell ≡ true) → state_by fell strength empty ≡ Emulating
emulates true strength empty cause = refl
emulates false Strong empty (inl e) = cc
emulates false Weak empty (inl e) = cc
emulates false Down empty cause = refl
emulates false strength empty (inr e) = cc

works_on : (fell : Bool) (strength : Strength) (empty : Bool) → is_cut strength ≡ false → fell ≡ false → state_by fell strength empty ≢ Emulating
works_on true strength empty up e = cc
works_on false Strong true up e = λ is. cc
works_on false Strong false up e = λ is. cc
works_on false Weak empty up e = λ is. cc
works_on false Down empty up e = cc

hoards : (fell : Bool) (strength : Strength) (empty : Bool) → fell ≡ false → strength ≡ Strong → empty ≡ true → state_by fell strength empty ≡ Hoarding
hoards fell strength empty up strong sent = λ i. state_by (up i) (strong i) (sent i)

strong : (fell : Bool) (strength : Strength) (empty : Bool) → state_by fell strength empty ≡ Hoarding → strength ≡ Strong
strong true strength empty e = cc
strong false Strong empty e = refl
strong false Weak empty e = cc
strong false Down empty e = cc

sent : (fell : Bool) (strength : Strength) (empty : Bool) → state_by fell strength empty ≡ Hoarding → empty ≡ true
sent true strength empty e = cc
sent false Strong true e = refl
sent false Strong false e = cc
sent false Weak empty e = cc
sent false Down empty e = cc

none_long : {A : Type 0} (xs : List A) → (length xs == 0) ≡ true → xs ≡ []
none_long [] e = refl
none_long (x ∷ xs) e = let no = eqb-true (length (x ∷ xs)) 0 e in absurd (omega (arith, no))

both_none : {A : Type 0} (xs ys : List A) → ((length xs == 0) && (length ys == 0)) ≡ true → (xs ≡ []) × (ys ≡ [])
both_none xs ys e = let parts = and_parts (length xs == 0) (length ys == 0) e in (none_long xs parts.0, none_long ys parts.1)

-- ---- the line

not_down : (o : Option Refused) (down : Bool) → o ≡ None → (not (is_some o) && down) ≡ false → down ≡ false
not_down None down all e = e
not_down (Some why) down all e = cc

module _ (cell : Cell) (client volume : ℕ) (state : ShownState) (outside : List (List ℕ)) (new : Cell) where
  -- what is shown comes of the line itself, by which nothing happens
  record Shown : Type 0 where
    there : first_missing (on_volume (state_of cell) client volume) ≡ None
    shows : ShowsState (meets cell (line.ShowState client volume)) client volume (StateReply state) []
    same : new ≡ cell

  shown_by : (o : Option Refused) → first_missing (on_volume (state_of cell) client volume) ≡ o → (own : Reply) (events : List Event)
      → UnlessRefused o (ShowsState (meets cell (line.ShowState client volume)) client volume) own events → EndsBy cell events own (StateReply state) new → Shown
  shown_by (Some why) is own events does (inl all) = (let no = all.1 ∙ does.0 in cc)
  shown_by (Some why) is own events does (inr (inl full)) = (let no = full.3 in cc)
  shown_by (Some why) is own events does (inr (inr fault)) = (let no = fault.2 in cc)
  shown_by None is own events does (inr (inl full)) = (let no = full.3 in cc)
  shown_by None is own events does (inr (inr fault)) = (let no = fault.2 in cc)
  shown_by None is own events does (inl all) = record {
    there = is;
    shows = record {
      client = does.client;
      replica = does.replica;
      client_there = does.client_there;
      replica_there = does.replica_there;
      answered = all.1 ∙ does.answered;
      happened = refl;
    };
    same = nothing_ends cell events own (StateReply state) new does.happened (inl all);
  }

  told : client_down cell client ≡ false → Shown → IsStateOf cell client volume state × (new ≡ cell)
  told up s =
      let r = s.shows.replica in
      let log = log_of (s.shows.client.volumes volume) in
      let fell = replica_down cell r.server volume in
      let link = cell.links client r.server in
      let state_is : state ≡ state_by fell link (is_empty log) = (let is = s.shows.answered in cc) in (
        record {
          at_client = s.shows.client;
          at_server = r;
          up = up;
          made = s.shows.client_there;
          there = s.shows.replica_there;
          settles = λ one. state_is ∙ settles one (links_to cell volume client r.server) (is_empty log);
          cut_off = λ cause. state_is ∙ emulates fell link (is_empty log) cause;
          reaches = λ can is. works_on fell link (is_empty log) can.0 can.1 (sym state_is ∙ is);
          hoards = λ can is chunk records. state_is ∙ hoards fell link (is_empty log) can.1 is (λ i. (length (chunk i) == 0) && (length (records i) == 0));
          strong = λ is. strong fell link (is_empty log) (sym state_is ∙ is);
          none_left = λ is. both_none log.chunk log.records (sent fell link (is_empty log) (sym state_is ∙ is));
        },
        s.same,
      )

pub shown_states_are_settled : ShownStatesAreSettled
shown_states_are_settled cell client volume state outside new happens = by (is_down_for (needs cell (line.ShowState client volume))) refl happens
  where
    by : (b : Bool) → is_down_for (needs cell (line.ShowState client volume)) ≡ b → UnlessDown b cell (DoesUp cell (line.ShowState client volume)) (StateReply state) outside new
        → IsStateOf cell client volume state × (new ≡ cell)
    by true down h = (let no = h.0 in cc)
    by false up h =
        let names = on_volume (state_of cell) client volume in
        let s = shown_by cell client volume state outside new (first_missing names) refl h.1.own h.1.events h.1.does h.1.ends in
        told cell client volume state outside new (not_down (first_missing names) (client_down cell client) s.there up) s
