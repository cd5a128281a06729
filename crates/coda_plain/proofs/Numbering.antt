-- What clients number.
use Rattle.std.proofs.Common.{◌≡◌, ℕ, ◌+◌, true, List, [], ◌∷◌, ◌++◌, append-nil, sym, subst, arith}
use Rattle.coda_fid.specs.declared.fid.Fid.{Fid}
use Rattle.coda_fid.specs.declared.op.Record.{Record}
use Rattle.coda_cancel.specs.Dropping.{creates}
use Rattle.coda_plain.specs.Deeds.{Deed, Operated, Froze, Settled, Gaveup, operation_in, full_of, created_by, created_in, IsNumbered, AreNumberedFrom, AreNumberedObjects}
use Rattle.coda_plain.specs.Moves.{IsNext}
use Rattle.coda_plain.proofs.Chunking.{full_push}

-- one operation more
pub numbered_more : (volume client before : ℕ) (recs : List Record) (rec : Record) → AreNumberedFrom volume client before recs → ((fid : Fid) → creates fid rec.op ≡ true → IsNumbered volume client (before + created_in recs + 1) fid)
    → AreNumberedFrom volume client before (recs ++ rec ∷ [])
numbered_more volume client before [] rec are next =
    ((λ fid e. (let is = next fid e in let number = is.number_is in record { here = is.here; own = is.own; number_is = omega (arith, number) })), tt)
numbered_more volume client before (x ∷ recs) rec are next = (
  are.0,
  numbered_more volume client (before + created_by x.op) recs rec are.1 (λ fid e. (let is = next fid e in let number = is.number_is in record { here = is.here; own = is.own; number_is = omega (arith, number) })),
)

-- what a deed creates is the next object
abbrev pub CreatesNext : ℕ → ℕ → List Deed → Deed → Type 0
CreatesNext volume client past (Operated rec) = (fid : Fid) → creates fid rec.op ≡ true → IsNext volume past client rec.op fid
CreatesNext volume client past (Froze number home last) = Unit {0}
CreatesNext volume client past (Settled number verdict) = Unit {0}
CreatesNext volume client past Gaveup = Unit {0}

more_numbered : (volume client : ℕ) (past : List Deed) (deed : Deed) → AreNumberedObjects volume client past → CreatesNext volume client past deed → AreNumberedFrom volume client 0 (full_of past ++ operation_in deed)
more_numbered volume client past (Operated rec) are next = numbered_more volume client 0 (full_of past) rec are (λ fid e. (let is = next fid e in let number = is.next in record { here = is.here; own = is.own; number_is = omega (arith, number) }))
more_numbered volume client past (Froze number home last) are next = subst (AreNumberedFrom volume client 0) (sym (append-nil (full_of past))) are
more_numbered volume client past (Settled number verdict) are next = subst (AreNumberedFrom volume client 0) (sym (append-nil (full_of past))) are
more_numbered volume client past Gaveup are next = subst (AreNumberedFrom volume client 0) (sym (append-nil (full_of past))) are

-- one deed more
pub objects_push : (volume client : ℕ) (past : List Deed) (deed : Deed) → AreNumberedObjects volume client past → CreatesNext volume client past deed → AreNumberedObjects volume client (past ++ deed ∷ [])
objects_push volume client past deed are next = subst (AreNumberedFrom volume client 0) (sym (full_push past deed)) (more_numbered volume client past deed are next)
