-- Small facts on tests.
use Rattle.std.proofs.Common.{◌≡◌, ◌≢◌, Bool, true, false, ◌&&◌, ◌||◌, Option, Some, None, is_some, IsSome, Ordering, refl, sym, subst, rules}
use Rattle.std.specs.Prelude.{T}
use Rattle.std.specs.declared.cmp.Ordering.TheVariants.{Less, Equal, Greater}
use Rattle.std.specs.Ordering.{is_lt, is_eq, is_gt}

-- both hold
pub and_true : (a b : Bool) → (a && b) ≡ true → (a ≡ true) × (b ≡ true)
and_true true b h = (refl, h)
and_true false b h = cc

-- and then the two together do
pub and_both : (a b : Bool) → a ≡ true → b ≡ true → (a && b) ≡ true
and_both true b h k = k
and_both false b h k = cc

pub or_true : (b : Bool) → (b || true) ≡ true
or_true true = refl
or_true false = refl

-- a test as a type, and back
pub to_T : (b : Bool) → b ≡ true → T b
to_T b h = subst T (sym h) tt

pub from_T : (b : Bool) → T b → b ≡ true
from_T true h = refl
from_T false h = absurd h

pub lt_less : (o : Ordering) → is_lt o ≡ true → o ≡ Less
lt_less Less h = refl
lt_less Equal h = cc
lt_less Greater h = cc

pub eq_true : (o : Ordering) → is_eq o ≡ true → o ≡ Equal
eq_true Less h = cc
eq_true Equal h = refl
eq_true Greater h = cc

-- what is there
pub has_some : {A : Type 0} (o : Option A) → is_some o ≡ true → IsSome o
has_some None h = cc
has_some (Some x) h = search rules

pub some_of : {A : Type 0} (o : Option A) → is_some o ≡ true → (x : A) × (o ≡ Some x)
some_of None h = cc
some_of (Some x) h = (x, refl)

pub gt_greater : (o : Ordering) → is_gt o ≡ true → o ≡ Greater
gt_greater Less h = cc
gt_greater Equal h = cc
gt_greater Greater h = refl

pub not_greater : (o : Ordering) → is_gt o ≡ false → o ≢ Greater
not_greater Less h is = cc
not_greater Equal h is = cc
not_greater Greater h is = cc
