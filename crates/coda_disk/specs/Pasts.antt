-- The moments of a disk in memory.
use Rattle.std.specs.Prelude.{ℕ, ◌+◌, ◌<◌, ◌≤◌, List, length}
use Rattle.std.proofs.Common.{inl, inr, subst, sym, arith}
use Rattle.std.proofs.lemmas.List.{take_all}
use Rattle.coda_disk.specs.Memory.{state_of, moments, LeftBefore, told_of}
use Rattle.coda_disk.specs.declared.calls.Call.{Call}
use Rattle.coda_disk.specs.declared.calls.Past.{Past}
use Rattle.coda_disk.specs.declared.calls.Past.TheVariants.{Made, Synced'}

-- What a crash might have left before the last sync it might have left before that moment.
pub left_earlier : (past : Past) (t : ℕ) (c : List ℕ) → LeftBefore past t c → t < moments past
left_earlier Made t c left = absurd left
left_earlier (Synced' shape past synced calls) t c (inl left) = let early = left_earlier past t c left in omega arith
left_earlier (Synced' shape past synced calls) t c (inr (k, since, inside, may)) = omega arith

-- What a crash may leave now it might have left since an earlier moment.
pub counts_in_memory : (past : Past) (synced : List ℕ) (calls : List Call) (t : ℕ) (c : List ℕ) → t ≤ moments past + length calls
    → (state_of synced calls).may_leave c → (told_of past synced calls).left_since t c
counts_in_memory past synced calls t c le now = inr (length calls, le, omega arith, subst (λ (l : List Call). (state_of synced l).may_leave c) (sym (take_all (length calls) calls (omega arith))) now)

-- What a crash might have left since this moment it may leave now.
pub only_in_memory : (past : Past) (synced : List ℕ) (calls : List Call) (c : List ℕ) → (told_of past synced calls).left_since (moments past + length calls) c
    → (state_of synced calls).may_leave c
only_in_memory past synced calls c (inl left) = let early = left_earlier past (moments past + length calls) c left in absurd (omega arith)
only_in_memory past synced calls c (inr (k, since, inside, may)) = subst (λ (l : List Call). (state_of synced l).may_leave c) (take_all k calls (omega arith)) may
