-- Which objects paths lead to.
use Rattle.std.proofs.Common.{◌≡◌, ℕ, zero, suc, ◌+◌, ◌<◌, ◌≤◌, Bool, true, false, cond, List, [], ◌∷◌, ◌++◌, length, Option, Some, None, is_some, Ok, append-nil, append_assoc, refl, sym, ap, ◌∙◌, subst, inl, inr, ◌⊎◌, arith}
use Rattle.std.specs.Prelude.{◌↔◌, Contains, slice_get}
use Rattle.std.specs.List.{list_any}
use Rattle.std.specs.FinMap as map
use Rattle.std.proofs.lemmas.Cmp.{nat_list_cmp_total}
use Rattle.std.proofs.lemmas.Map.Lookups.{exact_bytes}
use Rattle.std.proofs.lemmas.Bool.{cases_lt}
use Rattle.std.proofs.lemmas.Map.Views.{Contains-from_any}
use Rattle.std.proofs.lemmas.Option.{none-some, same_Some, slice_get_within, slice_get-get_or, get_or_from_slice_get}
use Rattle.std.proofs.lemmas.List.{get_or_append_left, length-append}
use Rattle.std.proofs.lemmas.List.Elements.{Contains-append_left, Contains-append_cases, Contains-push, Contains-get_or}
use Rattle.std.proofs.lemmas.List.Folds.{list_any_at}
use Rattle.indexmap.specs.IndexSet.{insert_key}
use Rattle.coda_fid.specs.Fid.{root_of, same_fid}
use Rattle.coda_fid.specs.Name.{name_cmp}
use Rattle.coda_fid.specs.declared.fid.Fid.{Fid}
use Rattle.coda_fid.proofs.Fids.{same_fid_is, same_fid_refl}
use Rattle.coda_tree.specs.declared.node.Node.{Node}
use Rattle.coda_tree.specs.declared.node.NodeKind.{NodeKind}
use Rattle.coda_tree.specs.declared.node.NodeKind.TheVariants.{File, Link, Dir}
use Rattle.coda_tree.specs.Bindings.{Name, Bindings}
use Rattle.coda_tree.specs.Volume.{Nodes, bindings, child, child_of, has, parent_of}
use Rattle.coda_tree.proofs.Parents.{parent_sound}
use Rattle.coda_tree.proofs.MapEntries.{get_entry, entry_index}
use Rattle.coda_venus.specs.Looking.{then_find, held, found, step_in, step_from, resolve}
use Rattle.coda_venus.specs.Reaching.{IsReached, AreReached, bound_by, Meets, Gathers}
use Rattle.coda_venus.proofs.Accepted.{found_then, held_is, step_is}

-- ---- one name more

held_there : (o : Option Node) (fid : Fid) → is_some o ≡ true → held o fid ≡ Ok fid
held_there None fid h = cc
held_there (Some node) fid h = refl

pub stays_there : (m : Nodes) (fid : Fid) → has m fid ≡ true → resolve m fid [] ≡ Ok fid
stays_there m fid there = held_there (map.get m fid) fid there

kind_steps : (kind : NodeKind) (name : Name) (fid : Fid) → map.get (bindings kind) name ≡ Some fid → step_in kind name ≡ Ok fid
kind_steps (File content) name fid h = (let no : None ≡ Some fid = sym (map.get-empty name_cmp name) ∙ h in cc)
kind_steps (Link target) name fid h = (let no : None ≡ Some fid = sym (map.get-empty name_cmp name) ∙ h in cc)
kind_steps (Dir entries) name fid h = ap found h

steps : (o : Option Node) (at : Fid) (name : Name) (fid : Fid) → child_of o name ≡ Some fid → step_from o at name ≡ Ok fid
steps None at name fid h = cc
steps (Some node) at name fid h = kind_steps node.kind name fid h

-- from a directory that binds the place where some names begin
pub up_one : (m : Nodes) (at dir fid : Fid) (names : List Name) → parent_of m at ≡ Some dir → resolve m at names ≡ Ok fid → (more : List Name) × (resolve m dir more ≡ Ok fid)
up_one m at dir fid names is leads =
    let b = parent_sound m at dir is in
    (b.0 ∷ names, ap (λ r. then_find r (λ next. resolve m next names)) (steps (map.get m dir) dir b.0 at b.1) ∙ leads)

-- behind names that lead to a directory
behind : (m : Nodes) (at : Fid) (names : List Name) (dir : Fid) (name : Name) (fid : Fid) → resolve m at names ≡ Ok dir → child m dir name ≡ Some fid → has m fid ≡ true → resolve m at (names ++ name ∷ []) ≡ Ok fid
behind m at [] dir name fid leads bound there =
    let same = (held_is (map.get m at) at dir leads).0 in
    ap (λ r. then_find r (λ next. resolve m next [])) (steps (map.get m at) at name fid (ap (λ d. child m d name) same ∙ bound)) ∙ stays_there m fid there
behind m at (n ∷ names) dir name fid leads bound there =
    let a = found_then (step_from (map.get m at) at n) (λ next. resolve m next names) dir leads in
    ap (λ r. then_find r (λ next. resolve m next (names ++ name ∷ []))) a.1 ∙ behind m a.0 names dir name fid a.2 bound there

pub down_one : (m : Nodes) (volume : ℕ) (dir : Fid) (name : Name) (fid : Fid) → IsReached m volume dir → child m dir name ≡ Some fid → has m fid ≡ true → IsReached m volume fid
down_one m volume dir name fid is bound there = (is.0 ++ name ∷ [], behind m (root_of volume) is.0 dir name fid is.1 bound there)

-- ---- objects that are closed

starts_there : (m : Nodes) (at : Fid) (names : List Name) (fid : Fid) → resolve m at names ≡ Ok fid → has m at ≡ true
starts_there m at [] fid h = (held_is (map.get m at) at fid h).1
starts_there m at (name ∷ names) fid h = there (map.get m at) (found_then (step_from (map.get m at) at name) (λ next. resolve m next names) fid h).1
  where
    there : {x : Fid} (o : Option Node) → step_from o at name ≡ Ok x → is_some o ≡ true
    there None h = cc
    there (Some node) h = refl

-- what names lead to from one of some objects is one of them, where they have all that they bind and that is held
pub closed : (m : Nodes) (fids : List Fid) → ((dir fid : Fid) (name : Name) → Contains fids dir → child m dir name ≡ Some fid → has m fid ≡ true → Contains fids fid) → (at : Fid) (names : List Name) (fid : Fid) → Contains fids at → resolve m at names ≡ Ok fid
    → Contains fids fid
closed m fids all at [] fid among leads = subst (Contains fids) (held_is (map.get m at) at fid leads).0 among
closed m fids all at (name ∷ names) fid among leads =
    let a = found_then (step_from (map.get m at) at name) (λ next. resolve m next names) fid leads in
    let s = step_is (map.get m at) at name a.0 a.1 in
    closed m fids all a.0 names fid (all at a.0 name among s.1 (starts_there m a.0 names fid a.2)) a.2

pub root_has : (m : Nodes) (volume : ℕ) (fid : Fid) → IsReached m volume fid → has m (root_of volume) ≡ true
root_has m volume fid is = starts_there m (root_of volume) is.0 fid is.1

-- ---- objects that were met

in_none : (fid : Fid) → Contains [] fid → ⊥
in_none fid c = let low = c.1 in omega (arith, low)

none_below : (i : ℕ) → i < 0 → ⊥
none_below i low = omega (arith, low)

-- a list stands at the front of a longer one
front_get : (fids more : List Fid) (i : ℕ) (fid : Fid) → slice_get (fids ++ more) i ≡ Some fid → i < length fids → slice_get fids i ≡ Some fid
front_get fids more i fid at low = slice_get-get_or fids i fid low ∙ ap Some (sym (get_or_append_left fids more fid i low) ∙ get_or_from_slice_get (fids ++ more) i fid fid at)

in_from_get : (fids : List Fid) (i : ℕ) (fid : Fid) → slice_get fids i ≡ Some fid → Contains fids fid
in_from_get fids i fid at = subst (Contains fids) (get_or_from_slice_get fids i fid fid at) (Contains-get_or fids i fid (slice_get_within fids i fid at))

get_from_in : (fids : List Fid) (fid : Fid) → (c : Contains fids fid) → slice_get fids c.0 ≡ Some fid
get_from_in fids fid c = slice_get-get_or fids c.0 fid c.1 ∙ ap Some c.2

before_or_at : (i count : ℕ) → i < count + 1 → (i < count) ⊎ (i ≡ count)
before_or_at i count low = elim (cases_lt i count) [ inl less ↦ inl less | inr more ↦ inr (omega (arith, low, more)) ]

in_one : (fid q : Fid) → Contains (fid ∷ []) q → q ≡ fid
in_one fid q (zero, low, is) = sym is
in_one fid q (suc k, low, is) = absurd (none_below k (omega (arith, low)))

-- an object that is held goes behind those that were met, unless it is there
pub meets : (m : Nodes) (old : List Fid) (fid : Fid) (new : List Fid) → has m fid ≡ true → new ≡ insert_key same_fid old fid → Meets m old fid new
meets m old fid new held is =
    elim (list_any (same_fid fid) old) as (λ b. list_any (same_fid fid) old ≡ b → new ≡ cond b old (old ++ fid ∷ []) → Meets m old fid new) [
      | true ↦ λ among same. record {
        more = [];
        behind = same ∙ sym (append-nil old);
        only = λ q c. absurd (in_none q c);
        there = λ _. subst (λ fids. Contains fids fid) (sym same) (Contains-from_any same_fid_is fid old among);
      }
      | false ↦ λ _ same. record {
        more = fid ∷ [];
        behind = same;
        only = λ q c. (in_one fid q c, held);
        there = λ _. subst (λ fids. Contains fids fid) (sym same) (Contains-push old fid);
      }
    ] refl is

-- one that isn't held doesn't
pub misses : (m : Nodes) (old : List Fid) (fid : Fid) → has m fid ≡ false → Meets m old fid old
misses m old fid away = record { more = []; behind = sym (append-nil old); only = λ q c. absurd (in_none q c); there = λ held. absurd (let no : true ≡ false = sym held ∙ away in cc) }

-- ---- what entries bind is gathered

-- the first entries were gathered
pub record GathersTo (m : Nodes) (old : List Fid) (entries : Bindings) (count : ℕ) (new : List Fid) : Type 0 where
  pub more : List Fid
  pub behind : new ≡ old ++ more
  pub bound : (fid : Fid) → Contains more fid → (has m fid ≡ true) × ((name : Name) × (map.get entries name ≡ Some fid))
  pub all : (i : ℕ) (name : Name) (fid : Fid) → i < count → slice_get (map.entries entries) i ≡ Some (name, fid) → has m fid ≡ true → Contains new fid

pub gather_none : (m : Nodes) (old : List Fid) (entries : Bindings) → GathersTo m old entries 0 old
gather_none m old entries = record { more = []; behind = sym (append-nil old); bound = λ fid c. absurd (in_none fid c); all = λ i name fid low at there. absurd (none_below i low) }

-- an entry more
pub gather_step : (m : Nodes) (old : List Fid) (entries : Bindings) (count : ℕ) (mid new : List Fid) (name : Name) (fid : Fid) → GathersTo m old entries count mid → slice_get (map.entries entries) count ≡ Some (name, fid)
    → Meets m mid fid new → GathersTo m old entries (count + 1) new
gather_step m old entries count mid new name fid g at meets = record {
  more = g.more ++ meets.more;
  behind = meets.behind ∙ ap (λ fids. fids ++ meets.more) g.behind ∙ append_assoc old g.more meets.more;
  bound = λ q c. elim (Contains-append_cases g.more meets.more q c) [
    | inl before ↦ g.bound q before
    | inr last ↦
        let one = meets.only q last in
        subst (λ f. (has m f ≡ true) × ((n : Name) × (map.get entries n ≡ Some f))) (sym one.0) (one.1, (name, get_entry nat_list_cmp_total entries count (name, fid) at))
  ];
  all = λ i n q low also there. elim (before_or_at i count low) [
    | inl before ↦ subst (λ fids. Contains fids q) (sym meets.behind) (Contains-append_left mid meets.more q (g.all i n q before also there))
    | inr same ↦
        let here : slice_get (map.entries entries) count ≡ Some (n, q) = subst (λ k. slice_get (map.entries entries) k ≡ Some (n, q)) same also in
        let one : fid ≡ q = ap (λ (p : Name × Fid). p.1) (same_Some (name, fid) (n, q) (sym at ∙ here)) in
        subst (Contains new) one (meets.there (subst (λ f. has m f ≡ true) (sym one) there))
  ];
}

pub gathered : (m : Nodes) (old : List Fid) (entries : Bindings) (count : ℕ) (new : List Fid) → GathersTo m old entries count new → length (map.entries entries) ≤ count → Gathers m old entries new
gathered m old entries count new g whole = record {
  more = g.more;
  behind = g.behind;
  bound = g.bound;
  all = λ name fid is there.
      let at = entry_index nat_list_cmp_total exact_bytes entries name fid is in
      let low = slice_get_within (map.entries entries) at.0 (name, fid) at.1 in
      g.all at.0 name fid (omega (arith, low, whole)) at.1 there;
}

-- nothing is bound, and nothing was gathered
pub gather_nothing : (m : Nodes) (old : List Fid) (entries : Bindings) → entries ≡ map.empty → Gathers m old entries old
gather_nothing m old entries none = record {
  more = [];
  behind = sym (append-nil old);
  bound = λ fid c. absurd (in_none fid c);
  all = λ name fid is there. absurd (none-some fid (sym (map.get-empty name_cmp name) ∙ ap (λ es. map.get es name) (sym none) ∙ is));
}

-- ---- a search of all that is held

-- paths lead to all that was met, and what the first of it bind and is held was met too
pub record Searched (m : Nodes) (volume : ℕ) (fids : List Fid) (count : ℕ) : Type 0 where
  pub within : count ≤ length fids
  pub each : (fid : Fid) → Contains fids fid → IsReached m volume fid
  pub root : has m (root_of volume) ≡ true → Contains fids (root_of volume)
  pub all : (i : ℕ) (dir fid : Fid) (name : Name) → i < count → slice_get fids i ≡ Some dir → child m dir name ≡ Some fid → has m fid ≡ true → Contains fids fid

-- nothing but the root was met, where that is held
pub search_root : (m : Nodes) (volume : ℕ) (old new : List Fid) → old ≡ [] → Meets m old (root_of volume) new → Searched m volume new 0
search_root m volume old new none meets = record {
  within = omega arith;
  each = λ fid c.
      let one = meets.only fid (subst (λ fids. Contains fids fid) (meets.behind ∙ ap (λ fids. fids ++ meets.more) none) c) in
      subst (IsReached m volume) (sym one.0) ([], stays_there m (root_of volume) one.1);
  root = meets.there;
  all = λ i dir fid name low. absurd (none_below i low);
}

child_is : (o : Option Node) (name : Name) → child_of o name ≡ map.get (bound_by o) name
child_is None name = sym (map.get-empty name_cmp name)
child_is (Some node) name = refl

pub search_step : (m : Nodes) (volume : ℕ) (old new : List Fid) (count : ℕ) (dir : Fid) → Searched m volume old count → slice_get old count ≡ Some dir → Gathers m old (bound_by (map.get m dir)) new → Searched m volume new (count + 1)
search_step m volume old new count dir s at g =
    let low = slice_get_within old count dir at in
    let size : length new ≡ length old + length g.more = ap length g.behind ∙ length-append old g.more in
    let kept : (fid : Fid) → Contains old fid → Contains new fid = λ fid c. subst (λ l. Contains l fid) (sym g.behind) (Contains-append_left old g.more fid c) in
    record {
      within = omega (arith, low, size);
      each = λ fid c. elim (Contains-append_cases old g.more fid (subst (λ l. Contains l fid) g.behind c)) [
        | inl before ↦ s.each fid before
        | inr last ↦ let b = g.bound fid last in down_one m volume dir b.1.0 fid (s.each dir (in_from_get old count dir at)) (child_is (map.get m dir) b.1.0 ∙ b.1.1) b.0
      ];
      root = λ there. kept (root_of volume) (s.root there);
      all = λ i d fid name early is bound there.
          let early_too : i < length old = omega (arith, early, low) in
          let was : slice_get old i ≡ Some d = front_get old g.more i d (subst (λ l. slice_get l i ≡ Some d) g.behind is) early_too in
          elim (before_or_at i count early) [
            | inl before ↦ kept fid (s.all i d fid name before was bound there)
            | inr same ↦
                let one : dir ≡ d = same_Some dir d (sym at ∙ subst (λ k. slice_get old k ≡ Some d) same was) in
                g.all name fid (sym (child_is (map.get m dir) name) ∙ subst (λ e. child m e name ≡ Some fid) (sym one) bound) there
          ];
    }

pub searched : (m : Nodes) (volume : ℕ) (fids : List Fid) (count : ℕ) → Searched m volume fids count → length fids ≤ count → AreReached m volume fids
searched m volume fids count s whole = record {
  each = s.each;
  all = λ fid is. closed m fids (λ dir f name c bound there. let low = c.1 in s.all c.0 dir f name (omega (arith, low, whole)) (get_from_in fids dir c) bound there) (root_of volume) is.0 fid (s.root (root_has m volume fid is)) is.1;
}

-- whether an object is among those that paths lead to
pub among_reached : (m : Nodes) (volume : ℕ) (fids : List Fid) (fid : Fid) (b : Bool) → AreReached m volume fids → b ≡ list_any (same_fid fid) fids → (b ≡ true) ↔ IsReached m volume fid
among_reached m volume fids fid b are is = (
  λ h. are.each fid (Contains-from_any same_fid_is fid fids (sym is ∙ h)),
  λ reached. let c = are.all fid reached in is ∙ list_any_at (same_fid fid) fids c.0 fid c.1 (ap (same_fid fid) c.2 ∙ same_fid_refl fid),
)
