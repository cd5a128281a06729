-- Which records mention an object: an index by objects and numbers.
use Rattle.std.specs.Prelude.{◌≡◌, ℕ, ◌+◌, ◌==◌, Bool, true, false, not, ◌&&◌, ◌||◌, nat_le, nat_lt, ◌≤◌, ◌<◌, Option, Some, None, List, [], ◌∷◌}
use Rattle.std.specs.List.{list_any, AllByRecursion}
use Rattle.std.specs.List.Sorted.{IsStrictlySortedBy}
use Rattle.std.specs.Ordering.{nat_cmp, ordering_then, is_eq}
use Rattle.std.specs.BTreeMap.Range.{IsLeBy}
use Rattle.std.specs.declared.cmp.Ordering.{Ordering}
use Rattle.std.specs.BTreeSet.{BTreeSet, contains}
use Rattle.coda_fid.specs.declared.fid.Fid.{Fid}
use Rattle.coda_fid.specs.declared.op.Record.{Record}
use Rattle.coda_fid.specs.Fid.{fid_cmp, same_fid}
use Rattle.coda_cancel.specs.declared.mentions.Mention.{Mention}
use Rattle.coda_cancel.specs.Dropping.{mentioning}

-- an object that a record of the number mentions
abbrev pub mention : Fid → ℕ → Mention
mention fid number = record { fid = fid; number = number }

-- by object, then by number
abbrev pub mention_cmp : Mention → Mention → Ordering
mention_cmp a b = ordering_then (fid_cmp a.fid b.fid) (nat_cmp a.number b.number)

-- whether the index says that a record of the number mentions the object
abbrev pub has : BTreeSet Mention → Fid → ℕ → Bool
has index fid number = contains mention_cmp index (mention fid number)

-- whether the record has the number, and mentions the object
abbrev pub tells : Record → Fid → ℕ → Bool
tells rec fid number = rec.number == number && mentioning fid rec.op

-- whether one of the records has the number, and mentions the object
abbrev pub is_mentioned : List Record → Fid → ℕ → Bool
is_mentioned [] fid number = false
is_mentioned (rec ∷ recs) fid number = tells rec fid number || is_mentioned recs fid number

-- whether one of the records mentions the object
abbrev pub any_mentions : Fid → List Record → Bool
any_mentions fid [] = false
any_mentions fid (rec ∷ recs) = mentioning fid rec.op || any_mentions fid recs

-- the index says what the records say
abbrev pub IsIndexOf : BTreeSet Mention → List Record → Type 0
IsIndexOf index recs = (fid : Fid) (number : ℕ) → has index fid number ≡ is_mentioned recs fid number

-- whether a number is another at most, if there is one
abbrev pub is_upto : Option ℕ → ℕ → Bool
is_upto None number = false
is_upto (Some last) number = nat_le number last

-- the number of the last of the records, if there is one
abbrev pub last_number : List Record → Option ℕ
last_number [] = None
last_number (rec ∷ []) = Some rec.number
last_number (rec ∷ next ∷ rest) = last_number (next ∷ rest)

-- the index says what the records say, as to the numbers up to this
abbrev pub CoversUpTo : Option ℕ → BTreeSet Mention → List Record → Type 0
CoversUpTo last index recs = (fid : Fid) (number : ℕ) → is_upto last number ≡ true → has index fid number ≡ is_mentioned recs fid number

-- and as to those up to the last one's
abbrev pub Covers : BTreeSet Mention → List Record → Type 0
Covers index recs = CoversUpTo (last_number recs) index recs

-- the same, as to the numbers above this
abbrev pub IsSameBeyond : Option ℕ → BTreeSet Mention → BTreeSet Mention → Type 0
IsSameBeyond last old new = (fid : Fid) (number : ℕ) → is_upto last number ≡ false → has new fid number ≡ has old fid number

-- whether a fid is among these
abbrev pub names : List Fid → Fid → Bool
names fids fid = list_any (λ f. same_fid f fid) fids

-- the same
abbrev pub IsSame : (Fid → ℕ → Bool) → (Fid → ℕ → Bool) → Type 0
IsSame old new = (fid : Fid) (number : ℕ) → new fid number ≡ old fid number

-- what passes the test was put in, or taken out
abbrev pub Gains : (Fid → ℕ → Bool) → (Fid → ℕ → Bool) → (Fid → ℕ → Bool) → Type 0
Gains old new test = (fid : Fid) (number : ℕ) → new fid number ≡ (old fid number || test fid number)

abbrev pub Loses : (Fid → ℕ → Bool) → (Fid → ℕ → Bool) → (Fid → ℕ → Bool) → Type 0
Loses old new test = (fid : Fid) (number : ℕ) → new fid number ≡ (old fid number && not (test fid number))

-- what doesn't pass the test stayed
abbrev pub IsSameElse : (Fid → ℕ → Bool) → (Fid → ℕ → Bool) → (Fid → ℕ → Bool) → Type 0
IsSameElse old new test = (fid : Fid) (number : ℕ) → test fid number ≡ false → new fid number ≡ old fid number

-- the number with one of these fids
abbrev pub with_number : ℕ → List Fid → Fid → ℕ → Bool
with_number own fids fid number = own == number && names fids fid

-- the first number above one, up to another, under which the index has the object
abbrev pub IsNext : BTreeSet Mention → Fid → Option ℕ → Option ℕ → ℕ → Type 0
IsNext index fid after last number =
    (is_upto after number ≡ false) × (is_upto last number ≡ true) × (has index fid number ≡ true)
    × ((between : ℕ) → is_upto after between ≡ false → nat_lt between number ≡ true → has index fid between ≡ false)

-- there is none
abbrev pub NoneNext : BTreeSet Mention → Fid → Option ℕ → Option ℕ → Type 0
NoneNext index fid after last = (number : ℕ) → is_upto after number ≡ false → is_upto last number ≡ true → has index fid number ≡ false

-- the first number from one up to another under which the index has the object
abbrev pub IsFirst : BTreeSet Mention → Fid → ℕ → ℕ → ℕ → Type 0
IsFirst index fid from last number = (from ≤ number) × (number ≤ last) × (has index fid number ≡ true) × ((between : ℕ) → from ≤ between → between < number → has index fid between ≡ false)

-- there is none
abbrev pub NoneBetween : BTreeSet Mention → Fid → ℕ → ℕ → Type 0
NoneBetween index fid from last = (number : ℕ) → from ≤ number → number ≤ last → has index fid number ≡ false

-- no record above this number mentions the object
abbrev pub NoneBeyond : List Record → Fid → Option ℕ → Type 0
NoneBeyond recs fid end = (number : ℕ) → is_upto end number ≡ false → is_mentioned recs fid number ≡ false

-- an index of mentions
abbrev pub Index : Type 0
Index = BTreeSet Mention

-- whether the mention is among these
abbrev pub among : List Mention → Fid → ℕ → Bool
among mentions fid number = list_any (λ m. is_eq (mention_cmp (mention fid number) m)) mentions

-- the least number above one, or the least of all
abbrev pub number_after : Option ℕ → ℕ
number_after None = 0
number_after (Some number) = number + 1

-- these are what the index has in order from the object's numbers above one on
abbrev pub AreAhead : Index → Fid → Option ℕ → List Mention → Type 0
AreAhead index fid after mentions =
    IsStrictlySortedBy mention_cmp mentions × AllByRecursion (λ m. IsLeBy mention_cmp (mention fid (number_after after)) m) mentions
    × ((number : ℕ) → is_upto after number ≡ false → among mentions fid number ≡ has index fid number)
