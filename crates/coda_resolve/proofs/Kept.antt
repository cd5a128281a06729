-- What a merged log keeps of the logs of all copies.
use Rattle.std.proofs.Common.{◌≡◌, ◌-◌, ℕ, arith, Bool, true, false, not, cond, List, [], ◌∷◌, ◌++◌, ◌||◌, Option, refl, sym, ap, ◌∙◌, subst, inl, inr, length, take, drop, map}
use Rattle.std.specs.Prelude.{◌==◌, ◌&&◌}
use Rattle.std.specs.List.{filter, fold}
use Rattle.std.proofs.lemmas.List.{take-append-drop, length-drop}
use Rattle.coda_reslog.specs.declared.entry.ResEntry.{ResEntry}
use Rattle.coda_reslog.specs.declared.change.Held.{Held}
use Rattle.coda_resolve.specs.Copies.{Copies, log_of}
use Rattle.coda_resolve.specs.Merged.{stands_in, followed_by}
use Rattle.coda_resolve.specs.Placement.{IsIn}
use Rattle.coda_resolve.specs.Told.{whole_log_of, MergedLogsKeepTheLatest}
use Rattle.coda_resolve.proofs.Followed.{is_new_to, whole_log}
use Rattle.coda_resolve.proofs.Lasting.{same_number}
use Rattle.coda_resolve.proofs.MergedNames.{any_append}

-- whether the update has the stamp of the other
abbrev is_as : ResEntry → ResEntry → Bool
is_as u v = (v.origin == u.origin) && (v.seq == u.seq)

or_second : (a b : Bool) → b ≡ true → (a || b) ≡ true
or_second true b e = refl
or_second false b e = e

stands_there : (log : List ResEntry) (u : ResEntry) → IsIn u log → stands_in log u ≡ true
stands_there [] u s = absurd s
stands_there (v ∷ log) u (inl is) = ap (λ b. b || stands_in log u) (ap (is_as u) is ∙ (λ i. same_number u.origin i && same_number u.seq i))
stands_there (v ∷ log) u (inr s) = or_second (is_as u v) (stands_in log u) (stands_there log u s)

in_filtered : (t : ResEntry → Bool) (log : List ResEntry) (u : ResEntry) → IsIn u log → t u ≡ true → IsIn u (filter t log)
in_filtered t [] u s e = absurd s
in_filtered t (v ∷ log) u (inl is) e = subst (λ (b : Bool). IsIn u (cond b (v ∷ filter t log) (filter t log))) (sym (ap t is ∙ e)) (inl is)
in_filtered t (v ∷ log) u (inr s) e = by (t v) (in_filtered t log u s e)
  where
    by : (b : Bool) → IsIn u (filter t log) → IsIn u (cond b (v ∷ filter t log) (filter t log))
    by true more = inr more
    by false more = more

still : (log other : List ResEntry) (u : ResEntry) → stands_in log u ≡ true → stands_in (followed_by log other) u ≡ true
still log other u e = any_append (is_as u) log (filter (is_new_to log) other) ∙ ap (λ b. b || stands_in (filter (is_new_to log) other) u) e

comes : (log other : List ResEntry) (u : ResEntry) → IsIn u other → stands_in (followed_by log other) u ≡ true
comes log other u s = by (stands_in log u) refl
  where
    by : (b : Bool) → stands_in log u ≡ b → stands_in (followed_by log other) u ≡ true
    by true e = still log other u e
    by false e = any_append (is_as u) log (filter (is_new_to log) other)
        ∙ or_second (stands_in log u) (stands_in (filter (is_new_to log) other) u) (stands_there (filter (is_new_to log) other) u (in_filtered (is_new_to log) other u s (ap not e)))

all_stand : (copies : Copies) (log : List ResEntry) (u : ResEntry) → stands_in log u ≡ true → stands_in (fold followed_by log (map log_of copies)) u ≡ true
all_stand [] log u e = e
all_stand (c ∷ copies) log u e = all_stand copies (followed_by log (log_of c)) u (still log (log_of c) u e)

from_copy : (copies : Copies) (copy : Option Held) (log : List ResEntry) (u : ResEntry) → IsIn copy copies → IsIn u (log_of copy) → stands_in (fold followed_by log (map log_of copies)) u ≡ true
from_copy [] copy log u s t = absurd s
from_copy (c ∷ copies) copy log u (inl is) t = all_stand copies (followed_by log (log_of c)) u (comes log (log_of c) u (subst (λ (o : Option Held). IsIn u (log_of o)) (sym is) t))
from_copy (c ∷ copies) copy log u (inr s) t = from_copy copies copy (followed_by log (log_of c)) u s t

none_dropped : (entries : List ResEntry) (count : ℕ) → count ≡ 0 → drop count entries ≡ entries
none_dropped entries count e = ap (λ n. drop n entries) e

pub merged_logs_keep_the_latest : MergedLogsKeepTheLatest
merged_logs_keep_the_latest = record {
  each = λ copies copy u s t. from_copy copies copy [] u s t;
  end = λ copies. let whole = whole_log_of copies in
      (take (length whole - 256) whole, sym (take-append-drop (length whole - 256) whole) ∙ ap (λ log. take (length whole - 256) whole ++ log) (whole_log copies));
  all = λ copies few. sym (whole_log copies) ∙ none_dropped (whole_log_of copies) (length (whole_log_of copies) - 256) (omega arith);
  full = λ copies many. ap length (sym (whole_log copies)) ∙ length-drop (length (whole_log_of copies) - 256) (whole_log_of copies) ∙ omega arith;
}
