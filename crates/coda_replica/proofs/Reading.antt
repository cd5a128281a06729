-- Payloads that are read as a history, one after the other.
use Rattle.std.proofs.Common.{◌≡◌, ℕ, suc, ◌+◌, ◌-◌, ◌^◌, ◌<◌, min, List, [], ◌∷◌, ◌++◌, length, take, drop, refl, sym, ap, ◌∙◌, subst, append-nil, arith}
use Rattle.std.proofs.lemmas.List.{length-append}
use Rattle.std.proofs.Math.Seq.{take-suc, split_at}
use Rattle.std.specs.Prelude.{Result, Err, get_or}
use Rattle.std.specs.Int.{w32}
use Rattle.coda_journal.specs.Entries.{blocks, body}
use Rattle.coda_journal.specs.Lengths.{length_bytes}
use Rattle.coda_journal.specs.declared.header.Header.{Header}
use Rattle.coda_journal.specs.declared.mounting.MountFault.{MountFault}
use Rattle.coda_journal.specs.declared.mounting.MountFault.TheVariants.{Foreign}
use Rattle.coda_journal.proofs.Lengths.{spells_4}
use Rattle.coda_replica.specs.State.{ReplicaState, new_replica}
use Rattle.coda_replica.specs.History.{payloads_of, state_after, IsDecidedIn}
use Rattle.coda_replica.specs.Entering.{Enters, IsUnfit, AreEntered, Breaks}
use Rattle.coda_replica.proofs.Growing.{payloads_push, state_push, history_push}

-- ---- places

body_length : (payload : List ℕ) → length (body w32 payload) ≡ 4 + length payload
body_length payload = length-append (length_bytes w32 (length payload)) payload ∙ ap (λ (n : ℕ). n + length payload) (spells_4.size (length payload))

-- one block more
pub blocks_push : (payloads : List (List ℕ)) (payload : List ℕ) → length (blocks w32 (payloads ++ payload ∷ [])) ≡ length (blocks w32 payloads) + (5 + length payload)
blocks_push [] payload =
    let all : length (body w32 payload ++ []) ≡ length (body w32 payload) = ap length (append-nil (body w32 payload)) in
    let one = body_length payload in
    omega (arith, all, one)
blocks_push (p ∷ payloads) payload =
    let rest = blocks_push payloads payload in
    let a = length-append (body w32 p) (blocks w32 (payloads ++ payload ∷ [])) in
    let b = length-append (body w32 p) (blocks w32 payloads) in
    omega (arith, rest, a, b)

-- some blocks behind others
pub blocks_append : (payloads more : List (List ℕ)) → length (blocks w32 (payloads ++ more)) ≡ length (blocks w32 payloads) + length (blocks w32 more)
blocks_append [] more = omega arith
blocks_append (p ∷ payloads) more =
    let rest = blocks_append payloads more in
    let a = length-append (body w32 p) (blocks w32 (payloads ++ more)) in
    let b = length-append (body w32 p) (blocks w32 payloads) in
    omega (arith, rest, a, b)

-- the place behind a payload
pub place_push : (start place : ℕ) (payloads : List (List ℕ)) (payload : List ℕ) → place ≡ min (start + length (blocks w32 payloads)) (2 ^ 64 - 1)
    → min (place + (5 + length payload)) (2 ^ 64 - 1) ≡ min (start + length (blocks w32 (payloads ++ payload ∷ []))) (2 ^ 64 - 1)
place_push start place payloads payload is = let more = blocks_push payloads payload in omega (arith, is, more)

-- ---- histories

pub none_entered : (header : Header) (r : ReplicaState) → r ≡ new_replica header.number header.server → AreEntered header [] r
none_entered header r is = record { history = []; same = refl; lawful = tt; leaves = is }

pub entered_push : (header : Header) (payloads : List (List ℕ)) (payload : List ℕ) (r next : ReplicaState) → AreEntered header payloads r → Enters r payload next → AreEntered header (payloads ++ payload ∷ []) next
entered_push header payloads payload r next are enters = record {
  history = are.history ++ enters.entry ∷ [];
  same = ap (λ (ps : List (List ℕ)). ps ++ payload ∷ []) are.same ∙ ap (λ (p : List ℕ). payloads_of are.history ++ p ∷ []) enters.spells.0 ∙ sym (payloads_push are.history enters.entry);
  lawful = history_push header are.history enters.entry are.lawful (subst (λ (s : ReplicaState). IsDecidedIn s enters.entry) are.leaves enters.decided, enters.spells.1);
  leaves = enters.leaves ∙ ap (λ (s : ReplicaState). state_after s enters.entry) are.leaves ∙ sym (state_push header are.history enters.entry);
}

-- a payload that doesn't fit
pub breaks_at : (header : Header) (payloads : List (List ℕ)) (payload : List ℕ) (rest : List (List ℕ)) (r : ReplicaState) (start at : ℕ) → AreEntered header payloads r → IsUnfit r payload
    → at ≡ min (start + length (blocks w32 payloads)) (2 ^ 64 - 1) → (all : List (List ℕ)) → all ≡ payloads ++ payload ∷ rest → Breaks header all start at
breaks_at header payloads payload rest r start at are unfit here all is = record {
  past = are.history;
  payload = payload;
  rest = rest;
  same = is ∙ ap (λ (ps : List (List ℕ)). ps ++ payload ∷ rest) are.same;
  lawful = are.lawful;
  misfit = λ entry spells may. unfit entry spells (subst (λ (s : ReplicaState). IsDecidedIn s entry) (sym are.leaves) may.0);
  here = here ∙ ap (λ (ps : List (List ℕ)). min (start + length (blocks w32 ps)) (2 ^ 64 - 1)) are.same;
}

-- ---- going on

pub one_more : (payloads : List (List ℕ)) (i : ℕ) (payload : List ℕ) → i < length payloads → payload ≡ get_or payloads i payload → take (i + 1) payloads ≡ take i payloads ++ payload ∷ []
one_more payloads i payload low is = take_plus payloads i payload low ∙ ap (λ (p : List ℕ). take i payloads ++ p ∷ []) (sym is)
  where
    take_plus : (l : List (List ℕ)) (j : ℕ) (d : List ℕ) → j < length l → take (j + 1) l ≡ take j l ++ get_or l j d ∷ []
    take_plus l j d lt = let e : j + 1 ≡ suc j = omega arith in ap (λ (n : ℕ). take n l) e ∙ take-suc l j d lt

pub parted : (payloads : List (List ℕ)) (i : ℕ) (payload : List ℕ) → i < length payloads → payload ≡ get_or payloads i payload → payloads ≡ take i payloads ++ payload ∷ drop (suc i) payloads
parted payloads i payload low is = split_at payloads i payload low ∙ ap (λ (p : List ℕ). take i payloads ++ p ∷ drop (suc i) payloads) (sym is)

pub foreign_place : {T : Type 0} (x y : ℕ) → (let err : ℕ → Result T MountFault = λ z. Err (Foreign z) in err x ≡ err y) → x ≡ y
foreign_place x y e = cc
