-- What entries and events make of a cell, and what is carried out.
use Rattle.std.proofs.Common.{◌≡◌, ℕ, ◌==◌, Bool, true, false, cond, List, [], ◌∷◌, ◌++◌, append-nil, map, Option, Some, None, option_map, Result, Ok, Err, refl, sym, ap, subst, ◌∙◌, arith}
use Rattle.std.specs.Prelude.{nat_le, nat_lt}
use Rattle.std.proofs.lemmas.Bool.Decides.{nat_tests}
use Rattle.coda_fid.specs.declared.op.Record.{Record}
use Rattle.coda_cml.specs.Chunks.{freeze_refusal}
use Rattle.coda_cml.specs.Segments.{segments_of}
use Rattle.coda_cml.specs.Steps.{settle_refusal}
use Rattle.coda_cml.specs.declared.fault.FreezeFault.{FreezeFault}
use Rattle.coda_cml.specs.declared.fault.SettleFault.{SettleFault}
use Rattle.coda_cml.specs.declared.frozen.Frozen.{Frozen}
use Rattle.coda_record.specs.declared.answer.Answer.{Answer as RecordAnswer}
use Rattle.coda_record.specs.declared.answer.Answer.TheVariants.{Applied, Conflict, Behind, Old}
use Rattle.coda_replica.specs.Answers.{is_next, told}
use Rattle.coda_script.specs.declared.line.Strength.{Strength}
use Rattle.coda_script.specs.declared.line.Strength.TheVariants.{Strong, Weak, Down}
use Rattle.coda_plain.specs.Histories.{left_by}
use Rattle.coda_plain.specs.Cell.{ClientEntry, Did}
use Rattle.coda_plain.specs.Decisions.{ReplicaEntry}
use Rattle.coda_plain.specs.Deeds.{Deed}
use Rattle.coda_plain.specs.Moves.{AtReplica}
use Rattle.coda_cell.specs.Held.{held_after_deed}
use Rattle.coda_venus.specs.Held.{Held}
use Rattle.coda_cell.specs.State.{put, ClientVolume, volume_after, ClientState, client_after, client_after_all, ReplicaState, replica_after, replica_after_all, replica_after_at, CellState, Event, Entered, after, after_all, at_client}
use Rattle.coda_cell.specs.Sending.{Freezing, frozen_now, frozen_unless, freezing_of, freezing, Ruling, decides, ruling_of, ruling, Taking, taken, taken_unless, taking, deeds_at, entries_at, Outcome, answered_to, ruled_on, drained_of, drain}
use Rattle.coda_cell.specs.Steps.{Named, first_missing}
use Rattle.coda_cell.specs.State.{with_volume}
use Rattle.coda_cell.specs.Refused.{Refused}
use Rattle.coda_cell.specs.Refused as refused
use Rattle.coda_cell.proofs.Families.{put_here, put_same, put_put}
use Rattle.coda_cell.proofs.Histories.{server_after}
use Rattle.coda_cell.proofs.Moving.{after_both}

-- a cell with another client, or another replica
abbrev pub with_client : CellState → ℕ → ClientState → CellState
with_client s n c = record s { clients = put s.clients n (Some c) }

-- entries of a client's history change that client alone
pub after_client : (s : CellState) (n : ℕ) (c : ClientState) (entries : List ClientEntry) → s.clients n ≡ Some c → after_all s (map (at_client n) entries) ≡ with_client s n (client_after_all c entries)
after_client s n c [] is = sym (λ i. record s { clients = λ q. put_same s.clients n (Some c) is q i })
after_client s n c (entry ∷ entries) is =
    let next = after s (at_client n entry) in
    let there = put_here s.clients n (option_map (λ (x : ClientState). client_after x entry) (s.clients n)) ∙ ap (option_map (λ (x : ClientState). client_after x entry)) is in
    after_client next n (client_after c entry) entries there
    ∙ (λ i. record s { clients = λ q. put_put s.clients n (option_map (λ (x : ClientState). client_after x entry) (s.clients n)) (Some (client_after_all (client_after c entry) entries)) q i })

-- two actors that are there
pub are_there : (a b : Named) → first_missing (a ∷ b ∷ []) ≡ None → (a.there ≡ true) × (b.there ≡ true)
are_there a b h = go a.number b.number a.there b.there h
  where
    go : (m n : ℕ) (x y : Bool) → first_missing (record { number = m; there = x } ∷ record { number = n; there = y } ∷ []) ≡ None → (x ≡ true) × (y ≡ true)
    go m n true true h = (refl, refl)
    go m n true false h = cc
    go m n false y h = cc

-- three actors that are there
pub all_there : (a b c : Named) → first_missing (a ∷ b ∷ c ∷ []) ≡ None → (a.there ≡ true) × (b.there ≡ true) × (c.there ≡ true)
all_there a b c h = go a.number b.number c.number a.there b.there c.there h
  where
    go : (l m n : ℕ) (x y z : Bool) → first_missing (record { number = l; there = x } ∷ record { number = m; there = y } ∷ record { number = n; there = z } ∷ []) ≡ None → (x ≡ true) × (y ≡ true) × (z ≡ true)
    go l m n true true true h = (refl, refl, refl)
    go l m n true true false h = cc
    go l m n true false z h = cc
    go l m n false y z h = cc

abbrev pub with_both : CellState → ℕ → ClientState → ℕ → ReplicaState → CellState
with_both s n c v r = record s { clients = put s.clients n (Some c); replicas = put s.replicas v (Some r) }

-- nothing happened
stays_left : (s : CellState) (n volume : ℕ) (c : ClientState) (r : ReplicaState) → s.clients n ≡ Some c → s.replicas volume ≡ Some r → s ≡ with_both s n (with_volume c volume (c.volumes volume)) volume r
stays_left s n volume c r is there =
    let kept : c ≡ with_volume c volume (c.volumes volume) = λ i. record c { volumes = λ v. sym (put_same c.volumes volume (c.volumes volume) refl v) i } in
    λ i. record s { clients = λ q. sym (put_same s.clients n (Some (with_volume c volume (c.volumes volume))) (is ∙ ap Some kept) q) i; replicas = λ q. sym (put_same s.replicas volume (Some r) there q) i }

-- an entry of the replica's history
replica_left : (s : CellState) (volume : ℕ) (r : ReplicaState) (entry : ReplicaEntry) → s.replicas volume ≡ Some r → after s (Entered (AtReplica r.server volume entry)) ≡ record s { replicas = put s.replicas volume (Some (replica_after r entry)) }
replica_left s volume r entry there =
    let here : (r.server == r.server) ≡ true = grind (arith, nat_tests) in
    λ i. record s { replicas = put s.replicas volume ((ap (option_map (replica_after_at r.server entry)) there ∙ ap (λ b. Some (cond b (replica_after r entry) r)) here) i) }

-- entries of the replica's history
pub replica_left_all : (s : CellState) (volume : ℕ) (r : ReplicaState) (entries : List ReplicaEntry) → s.replicas volume ≡ Some r
    → after_all s (entries_at r.server volume entries) ≡ record s { replicas = put s.replicas volume (Some (replica_after_all r entries)) }
replica_left_all s volume r [] there = sym (λ i. record s { replicas = λ q. put_same s.replicas volume (Some r) there q i })
replica_left_all s volume r (entry ∷ entries) there =
    let next = replica_after r entry in
    let s1 : CellState = record s { replicas = put s.replicas volume (Some next) } in
    let at : r.server ≡ next.server = sym (server_after r entry) in
    ap (λ t. after_all t (entries_at r.server volume entries)) (replica_left s volume r entry there)
    ∙ ap (λ n. after_all s1 (entries_at n volume entries)) at
    ∙ replica_left_all s1 volume next entries (put_here s.replicas volume (Some next))
    ∙ (λ i. record s { replicas = λ q. put_put s.replicas volume (Some next) (Some (replica_after_all next entries)) q i })

-- deeds that change nothing of what is held
abbrev pub IsHoldingStill : Deed → Type 0
IsHoldingStill deed = (held : Held) (client : ℕ) → held_after_deed held client deed ≡ held

abbrev pub AreHoldingStill : List Deed → Type 0
AreHoldingStill [] = Unit {0}
AreHoldingStill (deed ∷ deeds) = IsHoldingStill deed × AreHoldingStill deeds

-- a client after such deeds on a volume
pub deeds_left : (c : ClientState) (volume : ℕ) (deeds : List Deed) → AreHoldingStill deeds → client_after_all c (map (Did volume) deeds) ≡ with_volume c volume (left_by volume_after (c.volumes volume) deeds)
deeds_left c volume [] still = λ i. record c { volumes = λ v. sym (put_same c.volumes volume (c.volumes volume) refl v) i }
deeds_left c volume (deed ∷ deeds) still =
    let next = client_after c (Did volume deed) in
    let here : next.volumes volume ≡ volume_after (c.volumes volume) deed = put_here c.volumes volume (volume_after (c.volumes volume) deed) in
    deeds_left next volume deeds still.1
    ∙ (λ i. record c {
      held = still.0 c.held c.number i;
      volumes = λ v. (put_put c.volumes volume (volume_after (c.volumes volume) deed) (left_by volume_after (next.volumes volume) deeds) v ∙ ap (λ x. put c.volumes volume (left_by volume_after x deeds) v) here) i;
    })

-- the client's deeds, the replica's entries, and the client's deeds again
exchange_left : (s : CellState) (n volume : ℕ) (c : ClientState) (r : ReplicaState) (first rest : List Deed) (entries : List ReplicaEntry) → s.clients n ≡ Some c → s.replicas volume ≡ Some r → AreHoldingStill first → AreHoldingStill rest
    → after_all s (deeds_at n volume first ++ (entries_at r.server volume entries ++ deeds_at n volume rest))
    ≡ with_both s n (with_volume c volume (left_by volume_after (left_by volume_after (c.volumes volume) first) rest)) volume (replica_after_all r entries)
exchange_left s n volume c r first rest entries is there one two =
    let v1 = left_by volume_after (c.volumes volume) first in
    let c1 = with_volume c volume v1 in
    let s1 = with_client s n c1 in
    let s2 : CellState = record s1 { replicas = put s.replicas volume (Some (replica_after_all r entries)) } in
    let c2 = with_volume c1 volume (left_by volume_after (c1.volumes volume) rest) in
    let front : after_all s (deeds_at n volume first) ≡ s1 = after_client s n c (map (Did volume) first) is ∙ ap (with_client s n) (deeds_left c volume first one) in
    let middle : after_all s1 (entries_at r.server volume entries) ≡ s2 = replica_left_all s1 volume r entries there in
    let back : after_all s2 (deeds_at n volume rest) ≡ with_client s2 n c2 = after_client s2 n c1 (map (Did volume) rest) (put_here s.clients n (Some c1)) ∙ ap (with_client s2 n) (deeds_left c1 volume rest two) in
    let whole : c2 ≡ with_volume c volume (left_by volume_after v1 rest) =
    λ i. record c { volumes = λ v. (put_put c.volumes volume v1 (left_by volume_after (c1.volumes volume) rest) v ∙ ap (λ x. put c.volumes volume (left_by volume_after x rest) v) (put_here c.volumes volume v1)) i } in
    after_both s (deeds_at n volume first) (entries_at r.server volume entries ++ deeds_at n volume rest)
    ∙ after_both (after_all s (deeds_at n volume first)) (entries_at r.server volume entries) (deeds_at n volume rest)
    ∙ ap (λ t. after_all (after_all t (entries_at r.server volume entries)) (deeds_at n volume rest)) front
    ∙ ap (λ t. after_all t (deeds_at n volume rest)) middle
    ∙ back
    ∙ (λ i. record s { clients = λ q. (put_put s.clients n (Some c1) (Some c2) q ∙ ap (λ x. put s.clients n (Some x) q) whole) i; replicas = put s.replicas volume (Some (replica_after_all r entries)) })

-- a freezing leaves what its deeds do
pub record IsLeftByDeeds (v : ClientVolume) (f : Freezing) : Type 0 where
  pub volume : f.volume ≡ left_by volume_after v f.deeds
  pub still : AreHoldingStill f.deeds

pub freezing_left : (now window server : ℕ) (v : ClientVolume) (f : Freezing) → freezing now window server v ≡ Ok f → IsLeftByDeeds v f
freezing_left now window server v f e = by v.frozen e
  where
    room : (b : Bool) → (let r : Result Freezing Refused = cond b (Err refused.JournalFull) (Ok (frozen_now now window server v)) in r) ≡ Ok f → IsLeftByDeeds v f
    room true e = cc
    room false e = (let same : frozen_now now window server v ≡ f = cc in subst (IsLeftByDeeds v) same (record { volume = refl; still = ((λ h c. refl), tt) }))

    here : (o : Option FreezeFault) → frozen_unless o now window server v ≡ Ok f → IsLeftByDeeds v f
    here (Some why) e = cc
    here None e = room (nat_le 4294967295 v.chunks) e

    there : (chunk : Frozen) (b : Bool) → (let r : Result Freezing Refused = cond b (Ok (record { number = chunk.number; span = v.front; deeds = []; volume = v })) (Err (refused.Frozen chunk.number chunk.home)) in r) ≡ Ok f → IsLeftByDeeds v f
    there chunk false e = cc
    there chunk true e =
        let kept : Freezing = record { number = chunk.number; span = v.front; deeds = []; volume = v } in
        let same : kept ≡ f = cc in
        subst (IsLeftByDeeds v) same (record { volume = refl; still = tt })

    by : (o : Option Frozen) → freezing_of o now window server v ≡ Ok f → IsLeftByDeeds v f
    by None e = here (freeze_refusal None now window (segments_of v.back)) e
    by (Some chunk) e = there chunk (chunk.home == server) e

-- a ruling what its entries do
pub ruling_left : (client number : ℕ) (span : List Record) (r : ReplicaState) (ruled : Ruling) → ruling client number span r ≡ Ok ruled → (ruled.replica ≡ replica_after_all r ruled.entries) × (ruled.replica.server ≡ r.server)
ruling_left client number span r ruled e = by (is_next (r.lasts client) number) (nat_lt 4294967295 number) e
  where
    by : (next full : Bool) → ruling_of next full client number span r ≡ Ok ruled → (ruled.replica ≡ replica_after_all r ruled.entries) × (ruled.replica.server ≡ r.server)
    by true true e = cc
    by true false e = (let same : decides client number span r ≡ ruled = cc in subst (λ (x : Ruling). (x.replica ≡ replica_after_all r x.entries) × (x.replica.server ≡ r.server)) same (refl, refl))
    by false full e =
        let tells : Ruling = record { answer = told (r.lasts client) number; entries = []; replica = r } in
        let same : tells ≡ ruled = cc in
        subst (λ (x : Ruling). (x.replica ≡ replica_after_all r x.entries) × (x.replica.server ≡ r.server)) same (refl, refl)

-- and the taking of an answer
pub record IsTakenByDeeds (v : ClientVolume) (took : Taking) : Type 0 where
  pub volume : took.volume ≡ left_by volume_after v took.deeds
  pub still : AreHoldingStill took.deeds

taken_deeds : (number : ℕ) (answer : RecordAnswer) (v : ClientVolume) → IsTakenByDeeds v (taken number answer v)
taken_deeds number Applied v = record { volume = refl; still = ((λ h c. refl), tt) }
taken_deeds number (Conflict refused why) v = record { volume = refl; still = ((λ h c. refl), tt) }
taken_deeds number (Behind last) v = record { volume = refl; still = tt }
taken_deeds number (Old last) v = record { volume = refl; still = tt }

pub taking_deeds : (number : ℕ) (answer : RecordAnswer) (v : ClientVolume) (took : Taking) → taking number answer v ≡ Ok took → IsTakenByDeeds v took
taking_deeds number answer v took e = by (settle_refusal v.frozen number) e
  where
    by : (o : Option SettleFault) → taken_unless o number answer v ≡ Ok took → IsTakenByDeeds v took
    by (Some why) e = cc
    by None e = (let same : taken number answer v ≡ took = cc in subst (IsTakenByDeeds v) same (taken_deeds number answer v))

module _ (s : CellState) (n volume now window : ℕ) (c : ClientState) (r : ReplicaState) (is : s.clients n ≡ Some c) (there : s.replicas volume ≡ Some r) where
  abbrev pub IsComeTo : Outcome → Type 0
  IsComeTo x = after_all s x.events ≡ with_both s n (with_volume c volume x.volume) volume x.replica

  module _ (f : Freezing) (froze : freezing now window r.server (c.volumes volume) ≡ Ok f) where
    abbrev one : IsLeftByDeeds (c.volumes volume) f
    one = freezing_left now window r.server (c.volumes volume) f froze

    -- by what the deeds and the entries are
    comes : (entries : List ReplicaEntry) (rest : List Deed) (v : ClientVolume) (replica : ReplicaState) (events : List Event) → events ≡ deeds_at n volume f.deeds ++ (entries_at r.server volume entries ++ deeds_at n volume rest)
        → v ≡ left_by volume_after f.volume rest → replica ≡ replica_after_all r entries → AreHoldingStill rest → after_all s events ≡ with_both s n (with_volume c volume v) volume replica
    comes entries rest v replica events events_are v_is replica_is still =
        ap (after_all s) events_are ∙ exchange_left s n volume c r f.deeds rest entries is there one.still still
        ∙ (λ i. with_both s n (with_volume c volume (sym (v_is ∙ ap (λ x. left_by volume_after x rest) one.volume) i)) volume (sym replica_is i))

    answered_comes : (ruled : Ruling) → ruling n f.number f.span r ≡ Ok ruled → (o : Result Taking Refused) → taking f.number ruled.answer f.volume ≡ o → IsComeTo (answered_to n volume f ruled o)
    answered_comes ruled e (Err why) t =
        let by = ruling_left n f.number f.span r ruled e in
        comes ruled.entries [] f.volume ruled.replica _ (ap (λ at. deeds_at n volume f.deeds ++ entries_at at volume ruled.entries) by.1 ∙ ap (λ l. deeds_at n volume f.deeds ++ l) (sym (append-nil (entries_at r.server volume ruled.entries)))) refl by.0 tt
    answered_comes ruled e (Ok took) t =
        let by = ruling_left n f.number f.span r ruled e in
        let taken = taking_deeds f.number ruled.answer f.volume took t in
        comes ruled.entries took.deeds took.volume ruled.replica _ (ap (λ at. deeds_at n volume f.deeds ++ (entries_at at volume ruled.entries ++ deeds_at n volume took.deeds)) by.1) taken.volume by.0 taken.still

    ruled_comes : (o : Result Ruling Refused) → ruling n f.number f.span r ≡ o → IsComeTo (ruled_on n volume f r o)
    ruled_comes (Err why) e = comes [] [] f.volume r _ (sym (append-nil (deeds_at n volume f.deeds))) refl refl tt
    ruled_comes (Ok ruled) e = answered_comes ruled e (taking f.number ruled.answer f.volume) refl

  drained_comes : (o : Result Freezing Refused) → freezing now window r.server (c.volumes volume) ≡ o → IsComeTo (drained_of n volume (c.volumes volume) r o)
  drained_comes (Err why) e = stays_left s n volume c r is there
  drained_comes (Ok f) e = ruled_comes f e (ruling n f.number f.span r) refl

  pub drain_left : (strength : Strength) → IsComeTo (drain strength now window n volume (c.volumes volume) r)
  drain_left Strong = drained_comes (freezing now window r.server (c.volumes volume)) refl
  drain_left Weak = drained_comes (freezing now window r.server (c.volumes volume)) refl
  drain_left Down = stays_left s n volume c r is there
