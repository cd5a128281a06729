-- What is beside the entries of clients: it keeps a cell, and what groups of events make of a cell that works.
use Rattle.std.proofs.Common.{◌≡◌, ◌≢◌, ℕ, ◌==◌, ◌&&◌, Bool, true, false, cond, List, [], ◌∷◌, ◌++◌, length, Option, Some, None, option_map, refl, ap, ◌∙◌}
use Rattle.std.proofs.lemmas.Bool.{ne_eqb}
use Rattle.std.specs.List.{list_any}
use Rattle.coda_fid.specs.Fid.{same_fid}
use Rattle.coda_fid.specs.declared.fid.Fid.{Fid}
use Rattle.coda_cell.specs.Made.{Copy, MadeCell, state_of, grown, grown_all}
use Rattle.coda_cell.specs.Runs.{IsKept, IsLeft}
use Rattle.coda_cell.specs.State.{Event, VolumeMade, ClientMade, Ticked, LinkSet, Entered, Posted, Lost, Used, Kept, Stale, after, but_of, with_copy, used_then}
use Rattle.coda_cell.proofs.Moving.{left_both, left_none}
use Rattle.coda_lines.specs.Working.{MayStop, IsFair, IsWorking}

-- a cell with other things beside the histories of its clients
abbrev pub with_beside : MadeCell → (ℕ → Fid → Option Copy) → (ℕ → List Fid) → MadeCell
with_beside cell copies uses = record cell { copies = copies; uses = uses }

pub kept_beside : (cell : MadeCell) (copies : ℕ → Fid → Option Copy) (uses : ℕ → List Fid) → IsKept cell
    → IsKept (with_beside cell copies uses)
kept_beside cell copies uses kept = record {
  sound = kept.sound;
  up = kept.up;
  made = record { numbered = kept.made.numbered; clients = kept.made.clients; replicas = kept.made.replicas };
  holding = kept.holding;
  letters = record { numbered = kept.letters.numbered; pooled = kept.letters.pooled };
}

-- ---- events beside entries

-- an event is beside the history of this client
abbrev pub IsBeside : ℕ → Event → Type 0
IsBeside number (Used client fids) = client ≡ number
IsBeside number (Kept client server fid) = client ≡ number
IsBeside number (Stale client fids) = client ≡ number
IsBeside number event = ⊥

abbrev pub AreBeside : ℕ → List Event → Type 0
AreBeside number [] = Unit {0}
AreBeside number (event ∷ events) = IsBeside number event × AreBeside number events

pub beside_both : (number : ℕ) (first rest : List Event) → AreBeside number first → AreBeside number rest
    → AreBeside number (first ++ rest)
beside_both number [] rest a b = b
beside_both number (event ∷ first) rest a b = (a.0, beside_both number first rest a.1 b)

abbrev server_in : Option Copy → Option ℕ
server_in o = option_map (λ (copy : Copy). copy.server) o

seen_with : (copies : ℕ → Fid → Option Copy) (client : ℕ) (fid : Fid) (copy : Copy) (c : ℕ) (f : Fid)
    → server_in (with_copy copies client fid copy c f) ≡ with_copy (λ d g. server_in (copies d g)) client fid copy.server c f
seen_with copies client fid copy c f = by ((c == client) && same_fid f fid)
  where
    by : (b : Bool) → server_in (cond b (Some copy) (copies c f)) ≡ cond b (Some copy.server) (server_in (copies c f))
    by true = refl
    by false = refl

seen_but : (copies : ℕ → Fid → Option Copy) (client : ℕ) (fids : List Fid) (c : ℕ) (f : Fid)
    → server_in (but_of copies client fids c f) ≡ but_of (λ d g. server_in (copies d g)) client fids c f
seen_but copies client fids c f = by ((c == client) && list_any (λ g. same_fid g f) fids)
  where
    by : (b : Bool) → server_in (cond b None (copies c f)) ≡ cond b None (server_in (copies c f))
    by true = refl
    by false = refl

-- the copy that a server gives now
abbrev copy_of : MadeCell → ℕ → Fid → Copy
copy_of cell server fid = record { server = server; position = length (cell.acted.replicas server fid.volume).history }

shown_beside : (number : ℕ) (cell : MadeCell) (event : Event) → IsBeside number event
    → state_of (grown cell event) ≡ after (state_of cell) event
shown_beside number cell (Used client fids) is = refl
shown_beside number cell (Kept client server fid) is =
    λ i. record (after (state_of cell) (Kept client server fid)) {
      copies = λ c f. seen_with cell.copies client fid (copy_of cell server fid) c f i;
    }
shown_beside number cell (Stale client fids) is =
    λ i. record (after (state_of cell) (Stale client fids)) { copies = λ c f. seen_but cell.copies client fids c f i }
shown_beside number cell (VolumeMade volume server) is = absurd is
shown_beside number cell (ClientMade client blocks) is = absurd is
shown_beside number cell (Ticked seconds) is = absurd is
shown_beside number cell (LinkSet client server strength) is = absurd is
shown_beside number cell (Entered append) is = absurd is
shown_beside number cell (Posted sent) is = absurd is
shown_beside number cell (Lost message) is = absurd is

-- it keeps the cell
pub beside_left : (number : ℕ) (cell : MadeCell) (event : Event) → IsBeside number event → IsKept cell
    → IsLeft cell (event ∷ [])
beside_left number cell (Used client fids) is kept = record {
  moved = refl;
  kept = kept_beside cell _ _ kept;
  shown = shown_beside number cell (Used client fids) is;
}
beside_left number cell (Kept client server fid) is kept = record {
  moved = refl;
  kept = kept_beside cell _ _ kept;
  shown = shown_beside number cell (Kept client server fid) is;
}
beside_left number cell (Stale client fids) is kept = record {
  moved = refl;
  kept = kept_beside cell _ _ kept;
  shown = shown_beside number cell (Stale client fids) is;
}
beside_left number cell (VolumeMade volume server) is kept = absurd is
beside_left number cell (ClientMade client blocks) is kept = absurd is
beside_left number cell (Ticked seconds) is kept = absurd is
beside_left number cell (LinkSet client server strength) is kept = absurd is
beside_left number cell (Entered append) is kept = absurd is
beside_left number cell (Posted sent) is kept = absurd is
beside_left number cell (Lost message) is kept = absurd is

-- ---- what they leave

-- a cell with what is beside a client, of which nothing else changed
pub record IsBesideOf (number : ℕ) (cell new : MadeCell) : Type 0 where
  pub same : new ≡ with_beside cell new.copies new.uses
  pub copies : (c : ℕ) (fid : Fid) → c ≢ number → new.copies c fid ≡ cell.copies c fid
  pub uses : (c : ℕ) → c ≢ number → new.uses c ≡ cell.uses c

one_beside : (number : ℕ) (cell : MadeCell) (event : Event) → IsBeside number event
    → IsBesideOf number cell (grown cell event)
one_beside number cell (Used client fids) is = record {
  same = refl;
  copies = λ c fid other. refl;
  uses = λ c other. ap (λ b. cond b (used_then (cell.uses client) fids) (cell.uses c)) (ne_eqb c client (λ same. other (same ∙ is)));
}
one_beside number cell (Kept client server fid) is = record {
  same = refl;
  copies = λ c f other. ap (λ b. cond (b && same_fid f fid) (Some (copy_of cell server fid)) (cell.copies c f)) (ne_eqb c client (λ same. other (same ∙ is)));
  uses = λ c other. refl;
}
one_beside number cell (Stale client fids) is = record {
  same = refl;
  copies = λ c f other. ap (λ b. cond (b && list_any (λ g. same_fid g f) fids) None (cell.copies c f)) (ne_eqb c client (λ same. other (same ∙ is)));
  uses = λ c other. refl;
}
one_beside number cell (VolumeMade volume server) is = absurd is
one_beside number cell (ClientMade client blocks) is = absurd is
one_beside number cell (Ticked seconds) is = absurd is
one_beside number cell (LinkSet client server strength) is = absurd is
one_beside number cell (Entered append) is = absurd is
one_beside number cell (Posted sent) is = absurd is
one_beside number cell (Lost message) is = absurd is

pub all_beside : (number : ℕ) (cell : MadeCell) (events : List Event) → AreBeside number events
    → IsBesideOf number cell (grown_all cell events)
all_beside number cell [] are = record { same = refl; copies = λ c fid other. refl; uses = λ c other. refl }
all_beside number cell (event ∷ events) are =
    let one = one_beside number cell event are.0 in
    let rest = all_beside number (grown cell event) events are.1 in
    let new = grown_all (grown cell event) events in record {
      same = rest.same ∙ ap (λ x. with_beside x new.copies new.uses) one.same;
      copies = λ c fid other. rest.copies c fid other ∙ one.copies c fid other;
      uses = λ c other. rest.uses c other ∙ one.uses c other;
    }

-- ---- groups of events

-- Each of events in turn might happen in the cell that those before it left, and keeps it; and behind each at which a
-- line may stop, and behind all, the cell works; and what clients enter is fair.
abbrev pub WorksOn : MadeCell → List Event → Type 0
WorksOn cell [] = IsWorking cell
WorksOn cell (event ∷ events) = IsLeft cell (event ∷ []) × (MayStop events → IsWorking (grown cell event))
    × IsFair cell event × WorksOn (grown cell event) events

stop_before : (event : Event) (events rest : List Event) → MayStop ((event ∷ events) ++ rest) → MayStop (event ∷ events)
stop_before (Used client fids) events rest stop = stop
stop_before (Kept client server fid) events rest stop = stop
stop_before (Stale client fids) events rest stop = stop
stop_before (VolumeMade volume server) events rest stop = tt
stop_before (ClientMade client blocks) events rest stop = tt
stop_before (Ticked seconds) events rest stop = tt
stop_before (LinkSet client server strength) events rest stop = tt
stop_before (Entered append) events rest stop = tt
stop_before (Posted sent) events rest stop = tt
stop_before (Lost message) events rest stop = tt

pub works_behind : (cell : MadeCell) (events : List Event) → WorksOn cell events → IsWorking (grown_all cell events)
works_behind cell [] works = works
works_behind cell (event ∷ events) works = works_behind (grown cell event) events works.3

pub works_both : (cell : MadeCell) (first rest : List Event) → WorksOn cell first → WorksOn (grown_all cell first) rest
    → WorksOn cell (first ++ rest)
works_both cell [] rest a b = b
works_both cell (event ∷ []) rest a b = (a.0, (λ stop. a.3), a.2, b)
works_both cell (event ∷ next ∷ first) rest a b =
    (a.0, (λ stop. a.1 (stop_before next first rest stop)), a.2, works_both (grown cell event) (next ∷ first) rest a.3 b)

no_stop : (number : ℕ) (next : Event) (besides : List Event) → IsBeside number next → MayStop (next ∷ besides) → ⊥
no_stop number (Used client fids) besides is stop = stop
no_stop number (Kept client server fid) besides is stop = stop
no_stop number (Stale client fids) besides is stop = stop
no_stop number (VolumeMade volume server) besides is stop = is
no_stop number (ClientMade client blocks) besides is stop = is
no_stop number (Ticked seconds) besides is stop = is
no_stop number (LinkSet client server strength) besides is stop = is
no_stop number (Entered append) besides is stop = is
no_stop number (Posted sent) besides is stop = is
no_stop number (Lost message) besides is stop = is

beside_fair : (number : ℕ) (cell : MadeCell) (event : Event) → IsBeside number event → IsFair cell event
beside_fair number cell (Used client fids) is = tt
beside_fair number cell (Kept client server fid) is = tt
beside_fair number cell (Stale client fids) is = tt
beside_fair number cell (VolumeMade volume server) is = absurd is
beside_fair number cell (ClientMade client blocks) is = absurd is
beside_fair number cell (Ticked seconds) is = absurd is
beside_fair number cell (LinkSet client server strength) is = absurd is
beside_fair number cell (Entered append) is = absurd is
beside_fair number cell (Posted sent) is = absurd is
beside_fair number cell (Lost message) is = absurd is

-- events that keep a cell of which nothing stands beside a client but the first, where the cell works behind them
pub group_works : (number : ℕ) (cell : MadeCell) (event : Event) (besides : List Event) → IsLeft cell (event ∷ [])
    → IsFair cell event → AreBeside number besides → IsWorking (grown_all (grown cell event) besides)
    → WorksOn cell (event ∷ besides)
group_works number cell event [] left fair are works = (left, (λ stop. works), fair, works)
group_works number cell event (next ∷ besides) left fair are works = (
  left,
  (λ stop. absurd (no_stop number next besides are.0 stop)),
  fair,
  group_works number (grown cell event) next besides (beside_left number (grown cell event) next are.0 left.kept)
      (beside_fair number (grown cell event) next are.0) are.1 works,
)

-- ---- fronts

fronts : (cell : MadeCell) (done rest : List Event) → IsKept cell → WorksOn cell (done ++ rest) → IsLeft cell done
fronts cell [] rest kept works = left_none cell kept
fronts cell (event ∷ done) rest kept works =
    left_both cell (event ∷ []) done works.0 (fronts (grown cell event) done rest works.0.kept works.3)

pub works_fronts : (cell : MadeCell) (done rest : List Event) → IsWorking cell → WorksOn cell (done ++ rest)
    → IsLeft cell done
works_fronts cell done rest working works = fronts cell done rest working.kept works

stops : (cell : MadeCell) (event : Event) (done rest : List Event) → WorksOn cell (event ∷ (done ++ rest))
    → MayStop rest → IsWorking (grown_all (grown cell event) done)
stops cell event [] rest works stop = works.1 stop
stops cell event (next ∷ done) rest works stop = stops (grown cell event) next done rest works.3 stop

pub works_stopped : (cell : MadeCell) (done rest : List Event) → IsWorking cell → WorksOn cell (done ++ rest)
    → MayStop rest → IsWorking (grown_all cell done)
works_stopped cell [] rest working works stop = working
works_stopped cell (event ∷ done) rest working works stop = stops cell event done rest works stop

pub works_fair : (cell : MadeCell) (done : List Event) (event : Event) (rest : List Event)
    → WorksOn cell (done ++ event ∷ rest) → IsFair (grown_all cell done) event
works_fair cell [] event rest works = works.2
works_fair cell (first ∷ done) event rest works = works_fair (grown cell first) done event rest works.3
