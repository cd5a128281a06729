-- What goes from a client's cache with an operation, and what stays.
use Rattle.std.proofs.Common.{◌≡◌, ℕ, zero, suc, Bool, true, false, Option, Some, None}
use Rattle.std.proofs.Common.{refl, sym, ap, ◌∙◌, subst, inl, inr, ◌⊎◌, ⊎_elim}
use Rattle.std.proofs.lemmas.Bool.{false≢true, or_cases}
use Rattle.std.proofs.lemmas.Option.{none-some, same_Some}
use Rattle.std.specs.Option.{option_map_or}
use Rattle.std.specs.FinMap as map
use Rattle.coda_fid.specs.Fid.{same_fid}
use Rattle.coda_fid.specs.declared.fid.Fid.{Fid}
use Rattle.coda_fid.specs.declared.op.Op.{Op}
use Rattle.coda_fid.specs.declared.op.Op.TheVariants.{Create, Mkdir, Symlink, Store, Setattr, Remove, Rmdir, Rename}
use Rattle.coda_fid.specs.declared.op.Record.{Record}
use Rattle.coda_fid.proofs.Fids.{fids_total, exact_fids}
use Rattle.coda_cancel.proofs.Keys.{fid_true}
use Rattle.coda_tree.specs.Volume.{has}
use Rattle.coda_tree.proofs.Order.{fid_cases, get_here, get_else}
use Rattle.coda_cache.specs.Parents.{below_within}
use Rattle.coda_cache.specs.Steps.{taken_out}
use Rattle.coda_venus.specs.Held.{Held, Parents, is_below, parents_after, held_after_operation}
use Rattle.coda_rounds.specs.Leaving.{IsAtOrBelow, itself, under, IsPutInto, OnlyWhatIsBelowGoes}
use Rattle.coda_rounds.proofs.HeldBehind.{held_before, held_behind, parents_left, parents_kept}

-- ---- below

climbed : (parents : Parents) (n : ℕ) (f top : Fid) → below_within parents n f top ≡ true → IsAtOrBelow parents top f
climbed parents zero f top h = subst (IsAtOrBelow parents top) (sym (fid_true f top h)) itself
climbed parents (suc n) f top h = ⊎_elim
    (λ (a : same_fid f top ≡ true). subst (IsAtOrBelow parents top) (sym (fid_true f top a)) itself)
    (λ (b : option_map_or (λ p. below_within parents n p top) (map.get parents f) false ≡ true). up (λ p. climbed parents n p top) (map.get parents f) refl b)
    (or_cases (same_fid f top) _ h)
  where
    up : ((p : Fid) → below_within parents n p top ≡ true → IsAtOrBelow parents top p) → (o : Option Fid)
        → map.get parents f ≡ o → option_map_or (λ p. below_within parents n p top) o false ≡ true
        → IsAtOrBelow parents top f
    up more None at e = absurd (false≢true e)
    up more (Some p) at e = under f p at (more p e)

below : (parents : Parents) (f top : Fid) → is_below parents f top ≡ true → IsAtOrBelow parents top f
unfolding is_below
below parents f top h = climbed parents (map.len parents) f top h

-- ---- parents

-- what an insertion makes of the parent at an object, which is what the operation puts into the directory
put_at : (parents : Parents) (op : Op) (fid dir q : Fid) → (q ≡ fid → IsPutInto op q dir)
    → (map.get (map.insert parents fid dir) q ≡ map.get parents q)
    ⊎ ((d : Fid) × IsPutInto op q d × (map.get (map.insert parents fid dir) q ≡ Some d))
put_at parents op fid dir q put = elim (fid_cases q fid) [
  | inl same ↦ inr (dir, put same, ap (map.get (map.insert parents fid dir)) same ∙ get_here fids_total parents fid dir)
  | inr off ↦ inl (get_else fids_total exact_fids parents fid dir q off)
]

put_or_same : (parents : Parents) (op : Op) (q : Fid) → (map.get (parents_after parents op) q ≡ map.get parents q)
    ⊎ ((dir : Fid) × IsPutInto op q dir × (map.get (parents_after parents op) q ≡ Some dir))
put_or_same parents (Create dir name fid mode owner) q =
    put_at parents (Create dir name fid mode owner) fid dir q (λ same. inl (ap (λ f. Some (dir, f)) (sym same)))
put_or_same parents (Mkdir dir name fid mode owner) q =
    put_at parents (Mkdir dir name fid mode owner) fid dir q (λ same. inl (ap (λ f. Some (dir, f)) (sym same)))
put_or_same parents (Symlink dir name fid target mode owner) q = put_at parents
    (Symlink dir name fid target mode owner) fid dir q (λ same. inl (ap (λ f. Some (dir, f)) (sym same)))
put_or_same parents (Store fid pre content) q = inl refl
put_or_same parents (Setattr fid pre attrs) q = inl refl
put_or_same parents (Remove dir name fid pre) q = inl refl
put_or_same parents (Rmdir dir name fid pre) q = inl refl
put_or_same parents (Rename from_dir from to_dir to fid over) q = put_at parents
    (Rename from_dir from to_dir to fid over) fid to_dir q (λ same. inr (ap (λ f. Some (f, to_dir)) (sym same)))

-- ---- the law

module _ (h : Held) (client : ℕ) (rec : Record) where
  abbrev then_held : Held
  then_held = held_after_operation h client rec

  goes_by : (o : Option Fid) (f : Fid) → taken_out rec.op ≡ o → has h.nodes f ≡ true → has then_held.nodes f ≡ false
      → (gone : Fid) × (taken_out rec.op ≡ Some gone) × IsAtOrBelow h.parents gone f
  goes_by None f out is isnt = absurd
      (false≢true (sym isnt ∙ held_behind h client rec f (λ x e. absurd (none-some x (sym out ∙ e))) is))
  goes_by (Some gone) f out is isnt = by (is_below h.parents f gone) refl
    where
      by : (b : Bool) → is_below h.parents f gone ≡ b
          → (top : Fid) × (taken_out rec.op ≡ Some top) × IsAtOrBelow h.parents top f
      by true e = (gone, out, below h.parents f gone e)
      by false e = absurd (false≢true (sym isnt ∙ held_behind h client rec f
          (λ x at. ap (is_below h.parents f) (sym (same_Some gone x (sym out ∙ at))) ∙ e) is))

  goes : (f : Fid) → has h.nodes f ≡ true → has then_held.nodes f ≡ false
      → (gone : Fid) × (taken_out rec.op ≡ Some gone) × IsAtOrBelow h.parents gone f
  goes f is isnt = goes_by (taken_out rec.op) f refl is isnt

  stays : (f : Fid) → has then_held.nodes f ≡ true → (map.get then_held.parents f ≡ map.get h.parents f)
      ⊎ ((dir : Fid) × IsPutInto rec.op f dir × (map.get then_held.parents f ≡ Some dir))
  stays f is =
      let left = parents_left h client rec f (held_before h client rec f is).0 in elim (put_or_same h.parents rec.op f) [
        | inl same ↦ inl (left ∙ same)
        | inr put ↦ inr (put.0, put.1, left ∙ put.2)
      ]

  gets : (f p : Fid) → map.get then_held.parents f ≡ Some p
      → (map.get h.parents f ≡ Some p) ⊎ IsPutInto rec.op f p
  gets f p at =
      let was = parents_kept h client rec f p at in elim (put_or_same h.parents rec.op f) [
        | inl same ↦ inl (sym same ∙ was)
        | inr put ↦ inr (subst (IsPutInto rec.op f) (same_Some put.0 p (sym put.2 ∙ was)) put.1)
      ]

pub only_what_is_below_goes : OnlyWhatIsBelowGoes
only_what_is_below_goes = record {
  goes = λ held client rec f is isnt. goes held client rec f is isnt;
  stays = λ held client rec f is. stays held client rec f is;
  gets = λ held client rec f p at. gets held client rec f p at;
}
