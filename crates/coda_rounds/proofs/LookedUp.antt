-- What is looked up along a path that leads somewhere.
use Rattle.std.proofs.Common.{◌≡◌, ℕ, true, List, [], ◌∷◌, ◌++◌, Option, Some, None, option_map, Result, Ok}
use Rattle.std.proofs.Common.{refl, sym, ap, ◌∙◌, subst, ⊎_elim}
use Rattle.std.proofs.lemmas.Bool.{or_left, or_right, or_cases}
use Rattle.std.proofs.lemmas.Option.{none-some, same_Some}
use Rattle.std.specs.FinMap as map
use Rattle.coda_fid.specs.Fid.{root_of, same_fid}
use Rattle.coda_fid.specs.declared.fid.Fid.{Fid}
use Rattle.coda_tree.specs.declared.node.Node.{Node}
use Rattle.coda_tree.specs.declared.node.NodeKind.{NodeKind}
use Rattle.coda_tree.specs.declared.node.NodeKind.TheVariants.{File, Link, Dir}
use Rattle.coda_tree.specs.Bindings.{Name}
use Rattle.coda_tree.specs.Volume.{Nodes}
use Rattle.coda_cancel.proofs.Keys.{fid_same}
use Rattle.coda_walk.specs.Going.{is_listed}
use Rattle.coda_venus.specs.declared.refused.Refused.{Refused}
use Rattle.coda_venus.specs.Accepting.{spot, held_bound, bound_in, bound_at, place}
use Rattle.coda_venus.specs.Ask.{Ending, ending}
use Rattle.coda_venus.specs.Looking.{then_find, held, found, step_in, step_from, resolve}
use Rattle.coda_venus.proofs.Accepted.{found_then, held_is, ok_is}
use Rattle.coda_venus.specs.Serving.{look_on, looked_up}

-- each of the fids is among others
abbrev pub IsWithin : List Fid → List Fid → Type 0
IsWithin fids looked = (g : Fid) → is_listed fids g ≡ true → is_listed looked g ≡ true

pub head_within : (looked : List Fid) (at : Fid) (more : List Fid) → IsWithin (at ∷ more) looked
    → is_listed looked at ≡ true
head_within looked at more within = within at (or_left (same_fid at at) _ (fid_same at at refl))

module _ (m : Nodes) where
  then_looked : (at next : Fid) (name : Name) (rest : Fid → List Fid) → step_from (map.get m at) at name ≡ Ok next
      → (at ∷ look_on (step_from (map.get m at) at name) rest) ≡ (at ∷ rest next)
  then_looked at next name rest e = ap (λ r. at ∷ look_on r rest) e

  -- what is looked up behind a step
  pub tail_within : (looked : List Fid) (at next : Fid) (name : Name) (names : List Name)
      → step_from (map.get m at) at name ≡ Ok next → IsWithin (looked_up m at (name ∷ names)) looked
      → IsWithin (looked_up m next names) looked
  tail_within looked at next name names e within g on =
      within g (ap (λ l. is_listed l g) (then_looked at next name (λ x. looked_up m x names) e)
      ∙ or_right (same_fid at g) _ on)

  -- the object to which a path leads
  pub end_listed : (at : Fid) (names : List Name) (fid : Fid) → resolve m at names ≡ Ok fid
      → is_listed (looked_up m at names) fid ≡ true
  end_listed at [] fid h = or_left (same_fid at fid) _ (fid_same at fid (held_is (map.get m at) at fid h).0)
  end_listed at (name ∷ names) fid h =
      let a = found_then (step_from (map.get m at) at name) (λ next. resolve m next names) fid h in
      ap (λ l. is_listed l fid) (then_looked at a.0 name (λ x. looked_up m x names) a.1)
      ∙ or_right (same_fid at fid) _ (end_listed a.0 names fid a.2)

  -- what is looked up along the first names
  pub front_within : (at : Fid) (front : List Name) (last : Name) (dir : Fid) → resolve m at front ≡ Ok dir
      → IsWithin (looked_up m at front) (looked_up m at (front ++ last ∷ []))
  front_within at [] last dir h g on = ⊎_elim
      (λ (a : same_fid at g ≡ true). or_left (same_fid at g) _ a)
      (λ b. absurd (cc))
      (or_cases (same_fid at g) _ on)
  front_within at (name ∷ names) last dir h g on =
      let a = found_then (step_from (map.get m at) at name) (λ next. resolve m next names) dir h in
      ap (λ l. is_listed l g) (then_looked at a.0 name (λ x. looked_up m x (names ++ last ∷ [])) a.1) ∙ ⊎_elim
      (λ (b : same_fid at g ≡ true). or_left (same_fid at g) _ b)
      (λ (b : is_listed (looked_up m a.0 names) g ≡ true). or_right (same_fid at g) _
      (front_within a.0 names last dir a.2 g b))
      (or_cases (same_fid at g) (is_listed (looked_up m a.0 names) g)
      (sym (ap (λ l. is_listed l g) (then_looked at a.0 name (λ x. looked_up m x names) a.1)) ∙ on))

  -- and what the last name binds
  pub last_listed : (at : Fid) (front : List Name) (last : Name) (dir fid : Fid) → resolve m at front ≡ Ok dir
      → step_from (map.get m dir) dir last ≡ Ok fid → is_listed (looked_up m at (front ++ last ∷ [])) fid ≡ true
  last_listed at [] last dir fid h step =
      let same = (held_is (map.get m at) at dir h).0 in
      let here : step_from (map.get m at) at last ≡ Ok fid = ap (λ x. step_from (map.get m x) x last) same ∙ step in
      ap (λ l. is_listed l fid) (then_looked at fid last (λ x. looked_up m x []) here)
      ∙ or_right (same_fid at fid) _ (or_left (same_fid fid fid) _ (fid_same fid fid refl))
  last_listed at (name ∷ names) last dir fid h step =
      let a = found_then (step_from (map.get m at) at name) (λ next. resolve m next names) dir h in
      ap (λ l. is_listed l fid) (then_looked at a.0 name (λ x. looked_up m x (names ++ last ∷ [])) a.1)
      ∙ or_right (same_fid at fid) _ (last_listed a.0 names last dir fid a.2 step)

  -- a path that leads to a directory, with one name more
  pub resolve_more : (at : Fid) (front : List Name) (last : Name) (dir fid : Fid) → resolve m at front ≡ Ok dir
      → step_from (map.get m dir) dir last ≡ Ok fid → held (map.get m fid) fid ≡ Ok fid
      → resolve m at (front ++ last ∷ []) ≡ Ok fid
  resolve_more at [] last dir fid h step there =
      let same = (held_is (map.get m at) at dir h).0 in
      ap (λ r. then_find r (λ next. held (map.get m next) next))
      (ap (λ x. step_from (map.get m x) x last) same ∙ step) ∙ there
  resolve_more at (name ∷ names) last dir fid h step there =
      let a = found_then (step_from (map.get m at) at name) (λ next. resolve m next names) dir h in
      ap (λ r. then_find r (λ next. resolve m next (names ++ last ∷ []))) a.1
      ∙ resolve_more a.0 names last dir fid a.2 step there

  -- ---- the spot in which a path ends

  -- the directory, the object that it binds at the last name, and that this one is held
  pub record IsSpot (volume : ℕ) (e : List Name × Name) (at : Fid × Fid) : Type 0 where
    pub front : resolve m (root_of volume) e.0 ≡ Ok at.0
    pub step : step_from (map.get m at.0) at.0 e.1 ≡ Ok at.1
    pub there : held (map.get m at.1) at.1 ≡ Ok at.1

  pub spot_parts : (volume : ℕ) (e : List Name × Name) (at : Fid × Fid) → spot m volume e ≡ Ok at → IsSpot volume e at
  spot_parts volume e at h =
      let Pair : Type 0 = Fid × Fid in
      let ok : Pair → Result Pair Refused = λ z. Ok z in
      let a = found_then (resolve m (root_of volume) e.0) (λ dir. then_find (step_from (map.get m dir) dir e.1) (λ fid. then_find (held (map.get m fid) fid) (λ there. ok (dir, there)))) at h in
      let b = found_then (step_from (map.get m a.0) a.0 e.1) (λ fid. then_find (held (map.get m fid) fid) (λ there. ok (a.0, there))) at a.2 in
      let c = found_then (held (map.get m b.0) b.0) (λ there. ok (a.0, there)) at b.2 in
      let is = held_is (map.get m b.0) b.0 c.0 c.1 in
      let same : (a.0, c.0) ≡ at = ok_is (a.0, c.0) at c.2 in
      subst (IsSpot volume e) same (subst (λ x. IsSpot volume e (a.0, x)) is.0 (record {
        front = a.1;
        step = b.1;
        there = c.1 ∙ ap Ok (sym is.0);
      }))

  -- ---- a place for a new name

  -- its directory, and what that binds
  pub record IsPlace (volume : ℕ) (e : List Name × Name) (p : Fid × Option Fid) : Type 0 where
    pub front : resolve m (root_of volume) e.0 ≡ Ok p.0
    pub bound : bound_at m (map.get m p.0) p.0 e.1 ≡ Ok p.1

  pub place_parts : (volume : ℕ) (e : List Name × Name) (p : Fid × Option Fid) → place m volume e ≡ Ok p
      → IsPlace volume e p
  place_parts volume e p h =
      let ok : Fid × Option Fid → Result (Fid × Option Fid) Refused = λ z. Ok z in
      let a = found_then (resolve m (root_of volume) e.0) (λ dir. then_find (bound_at m (map.get m dir) dir e.1) (λ bound. ok (dir, bound))) p h in
      let b = found_then (bound_at m (map.get m a.0) a.0 e.1) (λ bound. ok (a.0, bound)) p a.2 in
      subst (IsPlace volume e) (ok_is (a.0, b.0) p b.2) (record { front = a.1; bound = b.1 })

  -- what it binds is looked up
  pub place_listed : (volume : ℕ) (e : List Name × Name) (p : Fid × Option Fid) → IsPlace volume e p → (old : Fid)
      → p.1 ≡ Some old → is_listed (looked_up m (root_of volume) (e.0 ++ e.1 ∷ [])) old ≡ true
  place_listed volume e p is old old_is =
      last_listed (root_of volume) e.0 e.1 p.0 old is.front (binds (map.get m p.0) (is.bound ∙ ap Ok old_is))
    where
      bound_is : (o : Option Fid) → held_bound m o ≡ Ok (Some old) → found o ≡ Ok old
      bound_is None h = absurd (cc)
      bound_is (Some f) h =
          let ok : Fid → Result (Option Fid) Refused = λ there. Ok (Some there) in
          let a = found_then (held (map.get m f) f) ok (Some old) h in
          let same : a.0 ≡ old = cc in ap Ok ((held_is (map.get m f) f a.0 a.1).0 ∙ same)

      binds_in : (kind : NodeKind) → bound_in m kind e.1 ≡ Ok (Some old) → step_in kind e.1 ≡ Ok old
      binds_in (File content) h = absurd (cc)
      binds_in (Link target) h = absurd (cc)
      binds_in (Dir entries) h = bound_is (map.get entries e.1) h

      binds : (o : Option Node) → bound_at m o p.0 e.1 ≡ Ok (Some old) → step_from o p.0 e.1 ≡ Ok old
      binds None h = absurd (cc)
      binds (Some node) h = binds_in node.kind h

-- ---- the first names and the last

pub path_is : (path : List Name) (e : List Name × Name) → ending path ≡ Some e → path ≡ e.0 ++ e.1 ∷ []
path_is [] e h = absurd (none-some e h)
path_is (name ∷ []) e h = ap (λ (x : List Name × Name). x.0 ++ x.1 ∷ []) (same_Some ([], name) e h)
path_is (name ∷ other ∷ names) e h = by (ending (other ∷ names)) (λ x. path_is (other ∷ names) x) h
  where
    by : (o : Ending) → ((x : List Name × Name) → o ≡ Some x → other ∷ names ≡ x.0 ++ x.1 ∷ [])
        → option_map (λ (x : List Name × Name). (name ∷ x.0, x.1)) o ≡ Some e → name ∷ other ∷ names ≡ e.0 ++ e.1 ∷ []
    by None rest k = absurd (none-some e k)
    by (Some x) rest k =
        ap (λ l. name ∷ l) (rest x refl)
        ∙ ap (λ (y : List Name × Name). y.0 ++ y.1 ∷ []) (same_Some (name ∷ x.0, x.1) e k)
