-- Each call comes to an answer, and fetches few objects.
use Rattle.std.proofs.Common.{◌≡◌, ℕ, zero, suc, ◌+◌, ◌≤◌, Bool, List, [], ◌∷◌, ◌++◌, length, length-append, Result}
use Rattle.std.proofs.Common.{Ok, Err, refl, ap, arith}
use Rattle.coda_fid.specs.declared.fid.Fid.{Fid}
use Rattle.coda_tree.specs.declared.node.Node.{Node}
use Rattle.coda_cache.specs.declared.fault.CacheFault.{CacheFault}
use Rattle.coda_venus.specs.declared.refused.Refused.{Refused as Refusal}
use Rattle.coda_venus.specs.Serving.{ServingClient}
use Rattle.coda_venus.specs.Rounds.{Because, why_full, RoundStep, Looked, Installed, Turned, CallResult}
use Rattle.coda_venus.specs.Rounds.{Answered, Needs, ClientCall, Rounds, answers, fails, turned, again}
use Rattle.coda_venus.specs.Rounds.{Sources, serving_after, parent_of_fetched, goes_for_fetch, operating, showing}
use Rattle.coda_rounds.specs.Laws.{fetched_in, IsUnserved, NeedsUnserved, AnswersFetchNothing}
use Rattle.coda_rounds.specs.Entering.{IsPlaced, IsReady, NeedsPlaced}
use Rattle.coda_rounds.specs.Bounds.{AreFetched, HasRounds, CallsHaveRounds, CallsFetchFew}
use Rattle.coda_rounds.proofs.Answering.{operating_fetches_nothing, showing_fetches_nothing}
use Rattle.coda_rounds.proofs.Calls.{operating_place, showing_place}
use Rattle.coda_rounds.proofs.Fetched.{fetched_more, blocks_then, none_fetched}
use Rattle.coda_rounds.proofs.Ready.{ready_looked, ready_fetched}
use Rattle.coda_rounds.proofs.Unserved.{operating_unserved, showing_unserved}

-- ---- a fetch behind a look-up

-- what isn't served isn't served behind a look-up
unserved_looked : (emulating : Bool) (s : ServingClient) (looked : List Fid) (fid : Fid) → IsUnserved emulating s fid
    → IsUnserved emulating (serving_after s (Looked looked)) fid
unserved_looked emulating s looked fid u = record { linked = u.linked; clean = u.clean; stale = u.stale }

looked_fetched : (s : ServingClient) (looked fetched : List Fid) → AreFetched s fetched
    → AreFetched (serving_after s (Looked looked)) fetched
looked_fetched s looked fetched are =
    record { different = are.different; cached = are.cached; valid = are.valid; few = are.few }

-- a client behind a look-up and a fetch
abbrev pub behind_fetch : ServingClient → List Fid → List Fid → Fid → Node → ℕ → ServingClient
behind_fetch s looked gone fid node server =
    serving_after (serving_after s (Looked looked))
    (Installed gone fid (parent_of_fetched s.client.held fid) node server)

module _ (emulating : Bool) (s : ServingClient) (looked : List Fid) (fid : Fid) (node : Node) (server : ℕ)
    (fetched gone : List Fid) (unserved : IsUnserved emulating s fid)
    (room : goes_for_fetch (serving_after s (Looked looked)) fid node fetched ≡ Ok gone) where
  -- a client that is ready is ready then
  pub fetched_ready : (sources : Sources) (volume : ℕ) → IsReady sources s volume → IsPlaced s fid
      → sources fid ≡ Ok (node, server) → IsReady sources (behind_fetch s looked gone fid node server) volume
  fetched_ready sources volume ready placed given =
      ready_fetched sources emulating volume (serving_after s (Looked looked))
      (ready_looked sources s volume looked ready) fid node server fetched gone given
      (unserved_looked emulating s looked fid unserved) placed room

  -- and what was fetched is cached together
  pub fetched_behind : (sources : Sources) (volume : ℕ) → IsReady sources s volume → AreFetched s fetched
      → AreFetched (behind_fetch s looked gone fid node server) (fetched ++ fid ∷ [])
  fetched_behind sources volume ready are =
      fetched_more emulating (serving_after s (Looked looked)) fid node server fetched gone
      (ready_looked sources s volume looked ready).order (looked_fetched s looked fetched are)
      (unserved_looked emulating s looked fid unserved) room

  pub blocks_behind : (behind_fetch s looked gone fid node server).client.blocks ≡ s.client.blocks
  blocks_behind =
      blocks_then (serving_after s (Looked looked)) gone fid (parent_of_fetched s.client.held fid) node server

-- ---- rounds

module _ (A : Type 0) (sources : Sources) (emulating : Bool) (volume : ℕ) (call : ClientCall A)
    (needs : NeedsUnserved emulating call) (place : NeedsPlaced call) where
  turn_is : (fetched : List Fid) (s : ServingClient) (result : CallResult A) → (call.turn fetched s).comes_to ≡ result
      → call.turn fetched s ≡ record { looked = (call.turn fetched s).looked; comes_to = result }
  turn_is fetched s result e = λ i. record { looked = (call.turn fetched s).looked; comes_to = e i }

  module _ (fetched : List Fid) (s : ServingClient) where
    abbrev looked : List Fid
    looked = (call.turn fetched s).looked

    -- a further fetch has rounds behind it
    abbrev MoreRounds : Type 0
    MoreRounds = (fid : Fid) (node : Node) (server : ℕ) (gone : List Fid)
        → call.turn fetched s ≡ record { looked = looked; comes_to = Needs fid } → sources fid ≡ Ok (node, server)
        → goes_for_fetch (serving_after s (Looked looked)) fid node fetched ≡ Ok gone
        → HasRounds sources call (fetched ++ fid ∷ []) (behind_fetch s looked gone fid node server)

    by_room : MoreRounds → (fid : Fid) (node : Node) (server : ℕ) (r : Result (List Fid) CacheFault)
        → call.turn fetched s ≡ record { looked = looked; comes_to = Needs fid } → sources fid ≡ Ok (node, server)
        → goes_for_fetch (serving_after s (Looked looked)) fid node fetched ≡ r → HasRounds sources call fetched s
    by_room more fid node server (Err why) turn given room = (
      Looked looked ∷ Turned fid server ∷ [],
      call.refused (why_full why),
      turned fetched s looked fid node server why turn given room,
    )
    by_room more fid node server (Ok gone) turn given room =
        let rest = more fid node server gone turn given room in (
          Looked looked ∷ Installed gone fid (parent_of_fetched s.client.held fid) node server ∷ rest.0,
          rest.1,
          again fetched s looked fid node server gone rest.0 rest.1 turn given room rest.2,
        )

    by_source : MoreRounds → (fid : Fid) (r : Result (Node × ℕ) Refusal)
        → call.turn fetched s ≡ record { looked = looked; comes_to = Needs fid } → sources fid ≡ r
        → HasRounds sources call fetched s
    by_source more fid (Err why) turn given =
        (Looked looked ∷ [], call.refused (Because why), fails fetched s looked fid why turn given)
    by_source more fid (Ok (node, server)) turn given =
        by_room more fid node server (goes_for_fetch (serving_after s (Looked looked)) fid node fetched) turn given refl

    by_result : MoreRounds → (result : CallResult A) → (call.turn fetched s).comes_to ≡ result
        → HasRounds sources call fetched s
    by_result more (Answered own answer) e =
        (Looked looked ∷ own, answer, answers fetched s looked own answer (turn_is fetched s (Answered own answer) e))
    by_result more (Needs fid) e = by_source more fid (sources fid) (turn_is fetched s (Needs fid) e) refl

  -- as long as fewer objects were fetched than the cache has blocks there may be a further fetch
  rounds_within : (n : ℕ) (fetched : List Fid) (s : ServingClient) → IsReady sources s volume → AreFetched s fetched
      → s.client.blocks ≤ n + length fetched → HasRounds sources call fetched s
  rounds_within zero fetched s ready are few = by_result fetched s (λ fid node server gone turn given room.
      let looks = looked fetched s in
      let unserved = needs fetched s looks fid turn in
      let then_are =
      fetched_behind emulating s looks fid node server fetched gone unserved room sources volume ready are in
      let more = then_are.few in
      let same = blocks_behind emulating s looks fid node server fetched gone unserved room in
      let longer = length-append fetched (fid ∷ []) in
      absurd (omega (arith, few, more, same, longer))) (call.turn fetched s).comes_to refl
  rounds_within (suc n) fetched s ready are few = by_result fetched s (λ fid node server gone turn given room.
      let looks = looked fetched s in
      let unserved = needs fetched s looks fid turn in
      let placed = place fetched s looks fid turn in
      let same = blocks_behind emulating s looks fid node server fetched gone unserved room in
      let longer = length-append fetched (fid ∷ []) in
      rounds_within n (fetched ++ fid ∷ []) (behind_fetch s looks gone fid node server)
      (fetched_ready emulating s looks fid node server fetched gone unserved room sources volume ready placed given)
      (fetched_behind emulating s looks fid node server fetched gone unserved room sources volume ready are)
      (omega (arith, few, same, longer))) (call.turn fetched s).comes_to refl

  -- what a call fetches, with what was fetched before, is no more than the cache has blocks
  few_within : AnswersFetchNothing call → (fetched : List Fid) (s : ServingClient) (steps : List RoundStep) (answer : A)
      → IsReady sources s volume → AreFetched s fetched → Rounds sources call fetched s steps answer
      → length fetched + length (fetched_in steps) ≤ s.client.blocks
  few_within answering fetched s steps answer ready are (answers f' s' looked own a e) =
      let none : length (fetched_in own) ≡ 0 = ap length (answering fetched s looked own a e) in
      let few = are.few in
      omega (arith, none, few)
  few_within answering fetched s steps answer ready are (fails f' s' looked fid why e none) =
      (let few = are.few in omega (arith, few))
  few_within answering fetched s steps answer ready are (turned f' s' looked fid node server why e given full) =
      (let few = are.few in omega (arith, few))
  few_within answering fetched s steps answer ready are
      (again f' s' looked fid node server gone later a e given room rest) =
      let unserved = needs fetched s looked fid e in
      let placed = place fetched s looked fid e in
      let more = few_within answering (fetched ++ fid ∷ []) (behind_fetch s looked gone fid node server) later a
      (fetched_ready emulating s looked fid node server fetched gone unserved room sources volume ready placed given)
      (fetched_behind emulating s looked fid node server fetched gone unserved room sources volume ready are) rest in
      let same = blocks_behind emulating s looked fid node server fetched gone unserved room in
      let longer = length-append fetched (fid ∷ []) in
      omega (arith, more, same, longer)

-- ---- any call that needs what isn't served, and is placed

-- at a client that is ready, behind fetches in the line, it comes to an answer
pub rounds_from : {A : Type 0} (sources : Sources) (emulating : Bool) (volume : ℕ) (call : ClientCall A)
    → NeedsUnserved emulating call → NeedsPlaced call → (fetched : List Fid) (s : ServingClient)
    → IsReady sources s volume → AreFetched s fetched
    → (steps : List RoundStep) × (answer : A) × Rounds sources call fetched s steps answer
rounds_from {A} sources emulating volume call needs place fetched s ready are =
    rounds_within A sources emulating volume call needs place s.client.blocks fetched s ready are (omega arith)

-- and fetches few
pub rounds_fetch_few : {A : Type 0} (sources : Sources) (emulating : Bool) (volume : ℕ) (call : ClientCall A)
    → NeedsUnserved emulating call → NeedsPlaced call → AnswersFetchNothing call → (fetched : List Fid)
    (s : ServingClient) (steps : List RoundStep) (answer : A) → IsReady sources s volume → AreFetched s fetched
    → Rounds sources call fetched s steps answer → length fetched + length (fetched_in steps) ≤ s.client.blocks
rounds_fetch_few {A} sources emulating volume call needs place answering fetched s steps answer ready are rounds =
    few_within A sources emulating volume call needs place answering fetched s steps answer ready are rounds

-- ---- operations, reads and listings

pub calls_have_rounds : CallsHaveRounds
calls_have_rounds = record {
  operating = λ sources emulating refused done time volume ask s ready.
      rounds_from sources emulating volume (operating emulating refused done time volume ask)
      (operating_unserved emulating refused done time volume ask)
      (operating_place emulating refused done time volume ask) [] s ready (none_fetched s);
  showing = λ sources emulating refused show kind volume path s itself ready.
      rounds_from sources emulating volume (showing emulating refused show kind volume path)
      (showing_unserved emulating refused show kind volume path itself)
      (showing_place emulating refused show kind volume path itself) [] s ready (none_fetched s);
}

pub calls_fetch_few : CallsFetchFew
calls_fetch_few = record {
  operating = λ sources emulating refused done time volume ask s steps answer ready rounds.
      (let call = operating emulating refused done time volume ask in
      let few = rounds_fetch_few sources emulating volume call
      (operating_unserved emulating refused done time volume ask)
      (operating_place emulating refused done time volume ask)
      (operating_fetches_nothing emulating refused done time volume ask) [] s steps answer ready (none_fetched s)
      rounds in
      omega (arith, few));
  showing = λ sources emulating refused show kind volume path s steps answer itself ready rounds.
      (let call = showing emulating refused show kind volume path in
      let few = rounds_fetch_few sources emulating volume call
      (showing_unserved emulating refused show kind volume path itself)
      (showing_place emulating refused show kind volume path itself)
      (showing_fetches_nothing emulating refused show kind volume path) [] s steps answer ready (none_fetched s)
      rounds in
      omega (arith, few));
}
