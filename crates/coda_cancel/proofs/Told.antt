-- Whether a record mentions an object, by the numbers under which records do.
use Rattle.std.proofs.Common.{◌≡◌, ℕ, Bool, true, false, ◌||◌, ◌&&◌, ◌==◌, List, [], ◌∷◌, Some, None, refl, ap, sym, ◌∙◌, arith}
use Rattle.std.proofs.lemmas.Bool.{and_parts, eq-eqb, le-leb, true≢false, false≢true}
use Rattle.coda_fid.specs.Fid.{same_fid}
use Rattle.coda_fid.specs.declared.fid.Fid.{Fid}
use Rattle.coda_fid.specs.declared.op.Record.{Record}
use Rattle.coda_fid.proofs.Fids.{same_fid_is, same_fid_refl}
use Rattle.coda_cancel.specs.declared.mentions.Mention.{Mention}
use Rattle.coda_cancel.specs.Dropping.{mentioning}
use Rattle.coda_cancel.specs.Mentions.{tells, is_mentioned, any_mentions, Index, IsIndexOf, AreAhead}
use Rattle.coda_cancel.proofs.Ahead.{next_found, none_ahead, none_left}

first_false : (b d : Bool) → (b || d) ≡ false → b ≡ false
first_false true d e = absurd (true≢false e)
first_false false d e = refl

second_false : (b d : Bool) → (b || d) ≡ false → d ≡ false
second_false true d e = absurd (true≢false e)
second_false false d e = e

-- what a record of some number mentions, a record mentions
pub some_told : (rs : List Record) (f : Fid) (n : ℕ) → is_mentioned rs f n ≡ true → any_mentions f rs ≡ true
some_told [] f n h = absurd (false≢true h)
some_told (r ∷ rs) f n h = go (tells r f n) refl h (some_told rs f n)
  where
    later : (b d : Bool) → d ≡ true → (b || d) ≡ true
    later true d e = refl
    later false d e = e

    go : (b : Bool) → tells r f n ≡ b → (b || is_mentioned rs f n) ≡ true → (is_mentioned rs f n ≡ true → any_mentions f rs ≡ true) → any_mentions f (r ∷ rs) ≡ true
    go true e here rest = ap (λ b. b || any_mentions f rs) (and_parts (r.number == n) (mentioning f r.op) e).1
    go false e here rest = later (mentioning f r.op) (any_mentions f rs) (rest here)

-- what a record of no number mentions, no record mentions
pub none_told : (rs : List Record) (f : Fid) → ((n : ℕ) → is_mentioned rs f n ≡ false) → any_mentions f rs ≡ false
none_told [] f h = refl
none_told (r ∷ rs) f h =
    let own : mentioning f r.op ≡ false = sym (ap (λ b. b && mentioning f r.op) (eq-eqb r.number r.number refl)) ∙ first_false (tells r f r.number) (is_mentioned rs f r.number) (h r.number) in
    ap (λ b. b || any_mentions f rs) own ∙ none_told rs f (λ n. second_false (tells r f n) (is_mentioned rs f n) (h n))

-- ---- by the index

-- what is ahead begins with a mention of the object exactly where a record mentions it
pub first_tells : (s : Index) (rs : List Record) (f : Fid) (m : Mention) (ms : List Mention) → AreAhead s f None (m ∷ ms) → IsIndexOf s rs → same_fid m.fid f ≡ any_mentions f rs
first_tells s rs f m ms ahead is = go (same_fid m.fid f) refl
  where
    go : (b : Bool) → same_fid m.fid f ≡ b → b ≡ any_mentions f rs
    go true e = sym (some_told rs f m.number (sym (is f m.number) ∙ (next_found s f None m ms ahead m.number (same_fid_is m.fid f e) (omega arith)).2))
    go false e = sym (none_told rs f (λ n. sym (is f n) ∙ none_ahead s f None m ms ahead n (λ same below. true≢false (sym (same_fid_refl f) ∙ ap (λ g. same_fid g f) (sym same) ∙ e)) n refl (le-leb n n (omega arith))))

-- where nothing is ahead no record does
pub nothing_tells : (s : Index) (rs : List Record) (f : Fid) → AreAhead s f None [] → IsIndexOf s rs → any_mentions f rs ≡ false
nothing_tells s rs f ahead is = none_told rs f (λ n. sym (is f n) ∙ none_left s f None (Some n) ahead n refl (le-leb n n (omega arith)))
