-- What the log of a volume mentions, in lists.
use Rattle.std.proofs.Common.{◌≡◌, ℕ, ◌+◌, ◌==◌, Bool, true, false, ◌||◌, List, [], ◌∷◌, ◌++◌, refl, ap, ◌∙◌, arith}
use Rattle.std.specs.Prelude.{if◌then◌else◌}
use Rattle.std.proofs.Math.Bridge.{le_prop}
use Rattle.std.proofs.lemmas.Bool.{eqb-true}
use Rattle.std.specs.Coded.{×_prop, Unit-prop}
use Rattle.coda_fid.specs.declared.fid.Fid.{Fid}
use Rattle.coda_fid.specs.declared.op.Record.{Record}
use Rattle.coda_fid.specs.declared.op.Op.{Op}
use Rattle.coda_fid.specs.declared.op.Op.TheVariants.{Create, Mkdir, Symlink, Store, Setattr, Remove, Rmdir, Rename}
use Rattle.coda_fid.specs.Fid.{same_fid}
use Rattle.coda_fid.specs.Op.{fids_of, carried}
use Rattle.coda_cancel.specs.Cancel.{object, cancels, without, appended, add}
use Rattle.coda_cancel.specs.Dropping.{mentioning}
use Rattle.coda_cancel.proofs.Debts.{hand-nothing}
use Rattle.coda_cml.specs.Steady.{any_record}
use Rattle.coda_cancel.specs.Numbers.{IsRising, AreAbove, AreBelow, AreUpTo}
use Rattle.coda_cancel.proofs.Rising.{rising_push, rising_behind}
use Rattle.coda_cml.specs.State.{LogState}
use Rattle.std.specs.List.{flat_map}
use Rattle.coda_venus.specs.Caching.{AreMentioned}
use Rattle.coda_venus.specs.Logs.{IsLogKept}
use Rattle.coda_venus.specs.State.{ClientVolume}
use Rattle.coda_walk.specs.Going.{is_listed}
use Rattle.coda_cache.specs.declared.hold.Hold.{Hold}
use Rattle.coda_cache.specs.State.{CacheState}
use Rattle.coda_cache.specs.Steps.{each, dirty_where, dirty_in, mutated}
use Rattle.coda_cache.specs.Room.{evicted_between, evicted_after}

-- who goes is the same by each list of what the log mentions of the volume
pub evicted_alike : (c : CacheState) (client volume : ℕ) (rec : Record) (one other looked : List Fid) → ((f : Fid) → f.volume ≡ volume → is_listed one f ≡ is_listed other f)
    → evicted_after c client volume rec one looked ≡ evicted_after c client volume rec other looked
unfolding evicted_after
evicted_alike c client volume rec one other looked same =
    let m = mutated c client rec in
    λ i. evicted_between c (record m { holds = each (λ f hold. alike f hold i) m.holds }) looked
  where
    alike : (f : Fid) (hold : Hold) → dirty_in volume one f hold ≡ dirty_in volume other f hold
    alike f hold = (elim (f.volume == volume) as (λ b. (f.volume == volume) ≡ b → (if b then dirty_where one f hold else hold) ≡ (if b then dirty_where other f hold else hold)) [
      | true ↦ λ at. λ i. record hold { dirty = same f (eqb-true f.volume volume at) i }
      | false ↦ λ _. refl
    ]) refl

-- ---- the numbers of a log rise, which can be so in one way alone

above_prop : (n : ℕ) (recs : List Record) → IsProp (AreAbove n recs)
above_prop n [] = Unit-prop
above_prop n (rec ∷ recs) = ×_prop le_prop (above_prop n recs)

pub rising_prop : (recs : List Record) → IsProp (IsRising recs)
rising_prop [] = Unit-prop
rising_prop (rec ∷ recs) = ×_prop (above_prop rec.number recs) (rising_prop recs)

below_next : (n m : ℕ) (recs : List Record) → m ≡ n + 1 → AreUpTo n recs → AreBelow m recs
below_next n m [] next up = tt
below_next n m (rec ∷ recs) next up = let here = up.0 in (omega (arith, here, next), below_next n m recs next up.1)

-- the next operation may stand behind the records
pub next_rises : (log : LogState) (rec : Record) → IsLogKept log → rec.number ≡ log.last + 1 → IsRising (log.records ++ rec ∷ [])
next_rises log rec kept next = rising_push log.records rec (rising_behind log.chunk log.records kept.rising) (below_next log.last rec.number log.records next (upto_behind log.chunk log.records kept.reached))
  where
    upto_behind : (front back : List Record) → AreUpTo log.last (front ++ back) → AreUpTo log.last back
    upto_behind [] back up = up
    upto_behind (r ∷ front) back up = upto_behind front back up.1

-- ---- lists of what records mention

pub listed_joined : (front back : List Fid) (f : Fid) → is_listed (front ++ back) f ≡ (is_listed front f || is_listed back f)
listed_joined [] back f = refl
listed_joined (g ∷ front) back f = ap (λ b. same_fid g f || b) (listed_joined front back f) ∙ by (same_fid g f) (is_listed front f) (is_listed back f)
  where
    by : (a b c : Bool) → (a || (b || c)) ≡ ((a || b) || c)
    by true b c = refl
    by false b c = refl

-- what the first record mentions was added
pub one_added : (f : Fid) (fids named : List Fid) (rec : Record) (recs : List Record) → is_listed named f ≡ is_listed (fids_of rec.op) f
    → (is_listed (fids ++ named) f || any_record (mentioning f) recs) ≡ (is_listed fids f || any_record (mentioning f) (rec ∷ recs))
one_added f fids named rec recs same = ap (λ b. b || any_record (mentioning f) recs) (listed_joined fids named f ∙ ap (λ b. is_listed fids f || b) same) ∙ by (is_listed fids f) (is_listed (fids_of rec.op) f) (any_record (mentioning f) recs)
  where
    by : (a b c : Bool) → ((a || b) || c) ≡ (a || (b || c))
    by true b c = refl
    by false b c = refl

pub or_nothing : (b : Bool) → (b || false) ≡ b
or_nothing true = refl
or_nothing false = refl

none_cancels : (op : Op) → cancels op [] ≡ false
none_cancels (Create dir name fid mode owner) = refl
none_cancels (Mkdir dir name fid mode owner) = refl
none_cancels (Symlink dir name fid target mode owner) = refl
none_cancels (Store fid pre content) = refl
none_cancels (Setattr fid pre attrs) = refl
none_cancels (Remove dir name fid pre) = refl
none_cancels (Rmdir dir name fid pre) = refl
none_cancels (Rename from_dir from to_dir to fid over) = refl

-- the first operation stays as it is
pub add_first : (rec : Record) → add [] rec ≡ rec ∷ []
add_first rec = ap (λ b. if b then without (object (carried rec.op)) [] else appended [] rec) (none_cancels rec.op) ∙ ap (λ r. r ∷ []) (hand-nothing rec)

all_listed : (recs : List Record) (f : Fid) → is_listed (flat_map (λ (rec : Record). fids_of rec.op) recs) f ≡ any_record (mentioning f) recs
all_listed [] f = refl
all_listed (rec ∷ recs) f = listed_joined (fids_of rec.op) (flat_map (λ (rec : Record). fids_of rec.op) recs) f ∙ ap (λ b. is_listed (fids_of rec.op) f || b) (all_listed recs f)

-- the objects that the log of a volume mentions
abbrev pub mentioned_in : ClientVolume → List Fid
mentioned_in v = flat_map (λ (rec : Record). fids_of rec.op) v.log.chunk ++ flat_map (λ (rec : Record). fids_of rec.op) v.log.records

pub are_mentioned : (v : ClientVolume) (volume : ℕ) → AreMentioned v volume (mentioned_in v)
are_mentioned v volume f at =
    listed_joined (flat_map (λ (rec : Record). fids_of rec.op) v.log.chunk) (flat_map (λ (rec : Record). fids_of rec.op) v.log.records) f ∙ (λ i. all_listed v.log.chunk f i || all_listed v.log.records f i)
