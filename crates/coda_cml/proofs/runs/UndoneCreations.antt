-- what a list says of an object whose creation is undone
use Rattle.std.proofs.Common.{◌≡◌, Bool, true, false, cond, List, [], ◌∷◌, refl, ◌&&◌, ◌||◌, not}
use Rattle.std.proofs.lemmas.Bool.{false≢true}
use Rattle.coda_fid.specs.declared.fid.Fid.{Fid}
use Rattle.coda_fid.specs.declared.op.Op.{Op}
use Rattle.coda_fid.specs.declared.op.Record.{Record}
use Rattle.coda_cancel.specs.Dropping.{creates, mentioning, writes}
use Rattle.coda_cancel.specs.Cancel.{is_true_alone, is_undone, others}
use Rattle.coda_cml.specs.Steady.{any_record}

abbrev pub all_records : (Op → Bool) → List Record → Bool
all_records p [] = true
all_records p (r ∷ rs) = p r.op && all_records p rs

abbrev pub only_made : Fid → Op → Bool
only_made f r = not (mentioning f r) || (creates f r || writes f r)

-- nothing but what is written mentions f
none_other : (f : Fid) (rs : List Record) → others f rs ≡ [] → all_records (only_made f) rs ≡ true
none_other f [] e = refl
none_other f (r ∷ rs) e = go (mentioning f r.op) (writes f r.op) (creates f r.op) (none_other f rs) e
  where
    go : (m w c : Bool) → (others f rs ≡ [] → all_records (only_made f) rs ≡ true) → cond (m && not w) (c ∷ others f rs) (others f rs) ≡ [] → ((not m || (c || w)) && all_records (only_made f) rs) ≡ true
    go true true true more e = more e
    go true true false more e = more e
    go true false c more e = absurd (cc)
    go false w c more e = more e

is_true_alone-only : (b : Bool) (bs : List Bool) → is_true_alone (b ∷ bs) ≡ true → (b ≡ true) × (bs ≡ [])
is_true_alone-only b [] e = (e, refl)
is_true_alone-only b (c ∷ bs) e = absurd (false≢true e)

pub undone_parts : (f : Fid) (rs : List Record) → is_undone f rs ≡ true → (any_record (creates f) rs ≡ true) × (all_records (only_made f) rs ≡ true)
undone_parts f [] e = absurd (false≢true e)
undone_parts f (r ∷ rs) e = go (mentioning f r.op) (writes f r.op) (creates f r.op) (undone_parts f rs) e
  where
    go : (m w c : Bool) → (is_true_alone (others f rs) ≡ true → (any_record (creates f) rs ≡ true) × (all_records (only_made f) rs ≡ true)) → is_true_alone (cond (m && not w) (c ∷ others f rs) (others f rs)) ≡ true → ((c || any_record (creates f) rs) ≡ true) × (((not m || (c || w)) && all_records (only_made f) rs) ≡ true)
    go true true true more e = (refl, (more e).1)
    go true true false more e = more e
    go true false true more e = (refl, none_other f rs (is_true_alone-only true (others f rs) e).1)
    go true false false more e = absurd (false≢true (is_true_alone-only false (others f rs) e).0)
    go false w true more e = (refl, (more e).1)
    go false w false more e = more e
