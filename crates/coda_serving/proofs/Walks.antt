-- Where a walk along a path comes to an object that isn't held.
use Rattle.std.proofs.Common.{◌≡◌, List, [], ◌∷◌, ◌++◌, Option, Some, None, option_map, Result, Ok, Err, refl, sym, ap, ◌∙◌, inl, inr, ◌⊎◌}
use Rattle.std.proofs.lemmas.Option.{none-some}
use Rattle.std.specs.FinMap as map
use Rattle.coda_fid.specs.declared.fid.Fid.{Fid}
use Rattle.coda_fid.proofs.Fids.{fids_total, exact_fids}
use Rattle.coda_tree.proofs.Order.{get_else}
use Rattle.coda_tree.specs.Bindings.{Name}
use Rattle.coda_tree.specs.Volume.{Nodes, child, child_of}
use Rattle.coda_tree.specs.declared.node.Node.{Node}
use Rattle.coda_tree.specs.declared.node.NodeKind.{NodeKind}
use Rattle.coda_tree.specs.declared.node.NodeKind.TheVariants.{File, Link, Dir}
use Rattle.coda_venus.specs.Ask.{Ending, ending}
use Rattle.coda_venus.specs.Looking.{then_find, held, found, step_in, step_from, resolve}
use Rattle.coda_venus.specs.declared.refused.Refused.{Refused}
use Rattle.coda_venus.specs.declared.refused.Refused.TheVariants.{Need}

-- this object is missing
abbrev pub Misses : {A : Type 0} → Result A Refused → Fid → Type 0
Misses r fid = r ≡ Err (Need fid)

pub err_is : {A : Type 0} (x y : Refused) → (let err : Refused → Result A Refused = λ z. Err z in err x ≡ err y) → x ≡ y
err_is x y e = cc

pub miss_is : {A : Type 0} (f g : Fid) → (let miss : Fid → Result A Refused = λ z. Err (Need z) in miss f ≡ miss g) → f ≡ g
miss_is f g e = cc

pub not_missing : {A : Type 0} (x : A) (fid : Fid) → (let r : Result A Refused = Ok x in Misses r fid) → ⊥
not_missing x fid e = cc

-- what one comes to, and then another
pub record Comes {A B : Type 0} (r : Result A Refused) (next : A → Result B Refused) (fid : Fid) : Type 0 where
  pub found : A
  pub is : r ≡ Ok found
  pub misses : Misses (next found) fid

-- it is missed at first, or then
pub first_or_then : {A B : Type 0} (r : Result A Refused) (next : A → Result B Refused) (fid : Fid) → Misses (then_find r next) fid → Misses r fid ⊎ Comes r next fid
first_or_then {A} {B} (Err why) next fid e = inl (ap Err (err_is {A = B} why (Need fid) e))
first_or_then (Ok x) next fid e = inr (record { found = x; is = refl; misses = e })

pub misses_then : {A B : Type 0} (r : Result A Refused) (next : A → Result B Refused) (fid : Fid) → Misses r fid → Misses (then_find r next) fid
misses_then r next fid e = ap (λ o. then_find o next) e

-- what is seen of a success misses nothing more
pub seen_misses : {A B : Type 0} (r : Result A Refused) (see : A → B) (fid : Fid) → Misses (then_find r (λ x. Ok (see x))) fid → Misses r fid
seen_misses r see fid e = elim (first_or_then r (λ x. Ok (see x)) fid e) [ inl first ↦ first | inr then_ ↦ absurd (not_missing (see then_.found) fid then_.misses) ]

pub comes_then : {A B : Type 0} (r : Result A Refused) (next : A → Result B Refused) (x : A) → r ≡ Ok x → then_find r next ≡ next x
comes_then r next x e = ap (λ o. then_find o next) e

-- ---- paths and their endings

-- where a path leads is where its last name leads from its directory
pub resolve_push : (m : Nodes) (at : Fid) (front : List Name) (name : Name)
    → resolve m at (front ++ name ∷ []) ≡ then_find (resolve m at front) (λ dir. then_find (step_from (map.get m dir) dir name) (λ fid. held (map.get m fid) fid))
resolve_push m at [] name = by (map.get m at) refl
  where
    by : (o : Option Node) → map.get m at ≡ o
        → then_find (step_from o at name) (λ next. held (map.get m next) next) ≡ then_find (held o at) (λ dir. then_find (step_from (map.get m dir) dir name) (λ fid. held (map.get m fid) fid))
    by None is = refl
    by (Some node) is = ap (λ o. then_find (step_from o at name) (λ fid. held (map.get m fid) fid)) (sym is)
resolve_push m at (first ∷ front) name = by (step_from (map.get m at) at first) (λ next. resolve_push m next front name)
  where
    by : (r : Result Fid Refused)
        → ((next : Fid) → resolve m next (front ++ name ∷ []) ≡ then_find (resolve m next front) (λ dir. then_find (step_from (map.get m dir) dir name) (λ fid. held (map.get m fid) fid)))
        → then_find r (λ next. resolve m next (front ++ name ∷ []))
        ≡ then_find (then_find r (λ next. resolve m next front)) (λ dir. then_find (step_from (map.get m dir) dir name) (λ fid. held (map.get m fid) fid))
    by (Err why) rest = refl
    by (Ok next) rest = rest next

-- a path with a last name is its front and that name
pub ended : (names : List Name) (e : List Name × Name) → ending names ≡ Some e → names ≡ e.0 ++ e.1 ∷ []
ended [] e is = cc
ended (name ∷ []) e is = let same : ([], name) ≡ e = cc in ap (λ (p : List Name × Name). p.0 ++ p.1 ∷ []) same
ended (name ∷ other ∷ names) e is = by (ending (other ∷ names)) refl (ended (other ∷ names)) is
  where
    by : (o : Ending) → ending (other ∷ names) ≡ o → ((d : List Name × Name) → ending (other ∷ names) ≡ Some d → other ∷ names ≡ d.0 ++ d.1 ∷ []) → option_map (λ (e : List Name × Name). (name ∷ e.0, e.1)) o ≡ Some e → name ∷ other ∷ names ≡ e.0 ++ e.1 ∷ []
    by None none rest x = cc
    by (Some d) some rest x =
        let same : (name ∷ d.0, d.1) ≡ e = cc in
        ap (λ l. name ∷ l) (rest d some) ∙ ap (λ (p : List Name × Name). p.0 ++ p.1 ∷ []) same

-- one without a last name is the root's
pub not_ended : (names : List Name) → ending names ≡ None → names ≡ []
not_ended [] is = refl
not_ended (name ∷ []) is = cc
not_ended (name ∷ other ∷ names) is = by (ending (other ∷ names)) refl (not_ended (other ∷ names)) is
  where
    by : (o : Ending) → ending (other ∷ names) ≡ o → (ending (other ∷ names) ≡ None → other ∷ names ≡ []) → option_map {U = List Name × Name} (λ (e : List Name × Name). (name ∷ e.0, e.1)) o ≡ None → name ∷ other ∷ names ≡ []
    by None none rest x = let nil : other ∷ names ≡ [] = rest none in cc
    by (Some d) some rest x = cc

-- ---- what is held on the way

pub held_is : (o : Option Node) (fid to : Fid) → held o fid ≡ Ok to → (node : Node) × (o ≡ Some node) × (fid ≡ to)
held_is None fid to e = cc
held_is (Some node) fid to e = (node, refl, cc)

pub held_misses : (o : Option Node) (fid gone : Fid) → Misses (held o fid) gone → (o ≡ None) × (fid ≡ gone)
held_misses None fid gone e = (refl, miss_is {A = Fid} fid gone e)
held_misses (Some node) fid gone e = absurd (not_missing fid gone e)

-- where a path leads an object is held
pub resolve_has : (m : Nodes) (at : Fid) (names : List Name) (to : Fid) → resolve m at names ≡ Ok to → (node : Node) × (map.get m to ≡ Some node)
resolve_has m at [] to e = let is = held_is (map.get m at) at to e in (is.0, ap (map.get m) (sym is.2) ∙ is.1)
resolve_has m at (name ∷ names) to e = by (step_from (map.get m at) at name) (λ next. resolve_has m next names to) e
  where
    by : (r : Result Fid Refused) → ((next : Fid) → resolve m next names ≡ Ok to → (node : Node) × (map.get m to ≡ Some node)) → then_find r (λ next. resolve m next names) ≡ Ok to → (node : Node) × (map.get m to ≡ Some node)
    by (Err why) rest x = cc
    by (Ok next) rest x = rest next x

step_in_never : (kind : NodeKind) (name : Name) (gone : Fid) → Misses (step_in kind name) gone → ⊥
step_in_never (File content) name gone e = cc
step_in_never (Link target) name gone e = cc
step_in_never (Dir entries) name gone e = by (map.get entries name) e
  where
    by : (o : Option Fid) → Misses (found o) gone → ⊥
    by None x = cc
    by (Some fid) x = cc

-- a step misses the object that it goes from
pub step_misses : (o : Option Node) (at : Fid) (name : Name) (gone : Fid) → Misses (step_from o at name) gone → (o ≡ None) × (at ≡ gone)
step_misses None at name gone e = (refl, miss_is {A = Fid} at gone e)
step_misses (Some node) at name gone e = absurd (step_in_never node.kind name gone e)

step_binds : (o : Option Node) (at : Fid) (name : Name) (next : Fid) → step_from o at name ≡ Ok next → child_of o name ≡ Some next
step_binds None at name next e = cc
step_binds (Some node) at name next e = by node.kind e
  where
    found_is : (o : Option Fid) → found o ≡ Ok next → o ≡ Some next
    found_is None x = cc
    found_is (Some fid) x = cc

    by : (kind : NodeKind) → step_in kind name ≡ Ok next → child_of (Some (record node { kind = kind })) name ≡ Some next
    by (File content) x = cc
    by (Link target) x = cc
    by (Dir entries) x = found_is (map.get entries name) x

-- what is missing on the way isn't held
pub missing_absent : (m : Nodes) (at : Fid) (names : List Name) (gone : Fid) → Misses (resolve m at names) gone → map.get m gone ≡ None
missing_absent m at [] gone e = let is = held_misses (map.get m at) at gone e in ap (map.get m) (sym is.1) ∙ is.0
missing_absent m at (name ∷ names) gone e = elim (first_or_then (step_from (map.get m at) at name) (λ next. resolve m next names) gone e) [
  | inl first ↦ (let is = step_misses (map.get m at) at name gone first in ap (map.get m) (sym is.1) ∙ is.0)
  | inr then_ ↦ missing_absent m then_.found names gone then_.misses
]

-- and it is where the walk began, or bound by what is held
pub missing_bound : (m : Nodes) (at : Fid) (names : List Name) (gone : Fid) → Misses (resolve m at names) gone → (gone ≡ at) ⊎ ((dir : Fid) × (name : Name) × (child m dir name ≡ Some gone))
missing_bound m at [] gone e = inl (sym (held_misses (map.get m at) at gone e).1)
missing_bound m at (name ∷ names) gone e = elim (first_or_then (step_from (map.get m at) at name) (λ next. resolve m next names) gone e) [
  | inl first ↦ inl (sym (step_misses (map.get m at) at name gone first).1)
  | inr then_ ↦ elim (missing_bound m then_.found names gone then_.misses) [
    | inl same ↦ inr (at, name, step_binds (map.get m at) at name then_.found then_.is ∙ ap Some (sym same))
    | inr bound ↦ inr bound
  ]
]

-- ---- once it is held

module _ (m : Nodes) (gone : Fid) (node : Node) (absent : map.get m gone ≡ None) where
  -- what was held still is
  pub still_held : (fid : Fid) (n : Node) → map.get m fid ≡ Some n → map.get (map.insert m gone node) fid ≡ Some n
  still_held fid n is = get_else fids_total exact_fids m gone node fid (λ same. none-some n (sym absent ∙ sym (ap (map.get m) same) ∙ is)) ∙ is

  step_still : (at : Fid) (name : Name) (next : Fid) → step_from (map.get m at) at name ≡ Ok next → step_from (map.get (map.insert m gone node) at) at name ≡ Ok next
  step_still at name next is = by (map.get m at) refl is
    where
      by : (o : Option Node) → map.get m at ≡ o → step_from o at name ≡ Ok next → step_from (map.get (map.insert m gone node) at) at name ≡ Ok next
      by None at_is x = cc
      by (Some n) at_is x = ap (λ o. step_from o at name) (still_held at n at_is) ∙ x

  -- a path leads where it did
  pub leads_still : (at : Fid) (names : List Name) (to : Fid) → resolve m at names ≡ Ok to → resolve (map.insert m gone node) at names ≡ Ok to
  leads_still at [] to is =
      let there = held_is (map.get m at) at to is in
      ap (λ o. held o at) (still_held at there.0 there.1) ∙ ap Ok there.2
  leads_still at (name ∷ names) to is = by (step_from (map.get m at) at name) refl (λ next x. leads_still next names to x) is
    where
      by : (r : Result Fid Refused) → step_from (map.get m at) at name ≡ r → ((next : Fid) → resolve m next names ≡ Ok to → resolve (map.insert m gone node) next names ≡ Ok to) → then_find r (λ next. resolve m next names) ≡ Ok to
          → resolve (map.insert m gone node) at (name ∷ names) ≡ Ok to
      by (Err why) r rest x = cc
      by (Ok next) r rest x = comes_then (step_from (map.get (map.insert m gone node) at) at name) (λ n. resolve (map.insert m gone node) n names) next (step_still at name next r) ∙ rest next x
