-- A repair leaves trees.
use Rattle.std.proofs.Common.{◌≡◌, ℕ, Bool, true, false, not, List, [], ◌∷◌, Option, Some, None, is_some, refl, sym}
use Rattle.std.proofs.Common.{ap, ◌∙◌, subst, ◌&&◌, ⊎_elim, ◌↔◌}
use Rattle.std.specs.FinMap as finmap
use Rattle.std.proofs.lemmas.Bool.{true≢false}
use Rattle.coda_fid.specs.Fid.{same_fid}
use Rattle.coda_fid.specs.Name.{name_cmp}
use Rattle.coda_fid.specs.declared.fid.Fid.{Fid}
use Rattle.coda_fid.proofs.Fids.{same_fid_is, same_fid_refl}
use Rattle.coda_tree.specs.Bindings.{Name}
use Rattle.coda_tree.specs.Tree.{IsBelow, itself, under}
use Rattle.coda_tree.proofs.Trees.{below_below}
use Rattle.coda_reslog.specs.declared.change.Held.{Held}
use Rattle.coda_resolve.specs.Copies.{Copies, bindings_of}
use Rattle.coda_resolve.specs.Resolution.{Objects, has_in, child_in, IsTreeView}
use Rattle.coda_resolve.proofs.Lists.{some_none}
use Rattle.coda_lineage.specs.Repairs.{LeadsAlike, repaired, is_taken, spared_by, spared, IsRepairedAt}
use Rattle.coda_lineage.proofs.Sparing.{leads_end, no_cycle, spared_binds, spared_keeps}

-- ---- what is held of an object then

pub data RepairedAt (subtree : Fid → Bool) (top : Fid) (source : ℕ) (copies : Fid → Copies) (right view after : Objects) (f : Fid) : Type 0 where
  put : (held : Held) → subtree f ≡ true → finmap.get right f ≡ Some held
      → finmap.get after f ≡ Some (repaired source (copies f) held)
      → RepairedAt subtree top source copies right view after f
  went : (g : Fid) → subtree f ≡ false → subtree g ≡ true → IsBelow (child_in view) g f → finmap.get after f ≡ None
      → RepairedAt subtree top source copies right view after f
  absent : subtree f ≡ false → finmap.get view f ≡ None → finmap.get after f ≡ None
      → RepairedAt subtree top source copies right view after f
  kept : (held : Held) → subtree f ≡ false → finmap.get view f ≡ Some held
      → finmap.get after f ≡ Some (spared_by subtree top held held.node.kind)
      → RepairedAt subtree top source copies right view after f

module _ (root : Fid) (right view after : Objects) (subtree : Fid → Bool) (top : Fid) (source : ℕ) (copies : Fid → Copies) (names : List Name)
    (right_tree : IsTreeView root right) (view_tree : IsTreeView root view) (way : LeadsAlike right view root names top)
    (below : (f : Fid) → (subtree f ≡ true) ↔ IsBelow (child_in right) top f) (done : IsRepairedAt subtree top source copies right view after) where
  -- ---- the subtree

  -- the source holds it
  pub right_has : (f : Fid) → subtree f ≡ true → has_in right f ≡ true
  right_has f e = by ((below f).0 e)
    where
      by : IsBelow (child_in right) top f → has_in right f ≡ true
      by (itself g is) = ap (has_in right) is ∙ ⊎_elim
          (λ (t : top ≡ root). ap (has_in right) t ∙ right_tree.rooted)
          (λ (x : (e : Fid) × ((n : Name) × ((child_in right e n ≡ Some top) × (child_in view e n ≡ Some top)))). right_tree.there x.0 x.1.0 top x.1.1.0)
          (leads_end right view root names top way)
      by (under d n g bound up) = right_tree.there d n f bound

  right_at : (f : Fid) → subtree f ≡ true → (held : Held) × (finmap.get right f ≡ Some held)
  right_at f e = by (finmap.get right f) refl (right_has f e)
    where
      by : (o : Option Held) → finmap.get right f ≡ o → is_some o ≡ true
          → (held : Held) × (finmap.get right f ≡ Some held)
      by None is h = absurd (true≢false (sym h))
      by (Some held) is h = (held, is)

  top_in : subtree top ≡ true
  top_in = (below top).1 (itself top refl)

  -- what it binds in the subtree is of it
  pub inside : (e : Fid) (n : Name) (f : Fid) → subtree e ≡ true → child_in right e n ≡ Some f → subtree f ≡ true
  inside e n f s bound = (below f).1 (under e n f bound ((below e).0 s))

  pub top_not_inside : (e : Fid) (n : Name) → subtree e ≡ true → child_in right e n ≡ Some top → ⊥
  top_not_inside e n s bound = no_cycle right_tree top e (right_tree.reached e (right_has e s)) ((below e).0 s) e n (itself e refl) bound

  -- ---- what a replica is left with

  pub at : (f : Fid) → RepairedAt subtree top source copies right view after f
  at f = by (subtree f) refl
    where
      by_view : subtree f ≡ false → (o : Option Held) → finmap.get view f ≡ o
          → finmap.get after f ≡ spared subtree top o → RepairedAt subtree top source copies right view after f
      by_view s None e is = absent s e is
      by_view s (Some held) e is = kept held s e is

      by_below : subtree f ≡ false → (b : Bool) → done.below f ≡ b
          → RepairedAt subtree top source copies right view after f
      by_below s true b = let g = (done.is_below f).0 b in went g.0 s g.1.0 g.1.1 (done.goes f s b)
      by_below s false b = by_view s (finmap.get view f) refl (done.stays f b ∙ refl)

      by : (b : Bool) → subtree f ≡ b → RepairedAt subtree top source copies right view after f
      by true s = let held = right_at f s in put held.0 s held.1 (done.put f held.0 s held.1)
      by false s = by_below s (done.below f) refl

  -- outside the subtree it binds what it did, and nothing of the subtree but its top
  pub child_out : (e : Fid) (n : Name) (f : Fid) → subtree e ≡ false → child_in after e n ≡ Some f
      → (child_in view e n ≡ Some f) × (is_taken subtree top (Some f) ≡ false)
  child_out e n f s h = by (at e)
    where
      by : RepairedAt subtree top source copies right view after e
          → (child_in view e n ≡ Some f) × (is_taken subtree top (Some f) ≡ false)
      by (put held x o is) = absurd (true≢false (sym x ∙ s))
      by (went g x y b is) = absurd (some_none f (sym h ∙ ap (λ c. finmap.get (bindings_of c) n) is ∙ finmap.get-empty name_cmp n))
      by (absent x o is) = absurd (some_none f (sym h ∙ ap (λ c. finmap.get (bindings_of c) n) is ∙ finmap.get-empty name_cmp n))
      by (kept held x o is) =
          let b = spared_binds subtree top held held.node.kind n f refl (ap (λ c. finmap.get (bindings_of c) n) (sym is) ∙ h) in
          (ap (λ c. finmap.get (bindings_of c) n) o ∙ b.0, b.1)

  pub child_inside : (e : Fid) (n : Name) → subtree e ≡ true → child_in after e n ≡ child_in right e n
  child_inside e n s = by (at e)
    where
      by : RepairedAt subtree top source copies right view after e → child_in after e n ≡ child_in right e n
      by (put held x o is) = ap (λ c. finmap.get (bindings_of c) n) is ∙ ap (λ c. finmap.get (bindings_of c) n) (sym o)
      by (went g x y b is) = absurd (true≢false (sym s ∙ x))
      by (absent x o is) = absurd (true≢false (sym s ∙ x))
      by (kept held x o is) = absurd (true≢false (sym s ∙ x))

  -- what is bound outside and of the subtree is its top
  pub is_top : (f : Fid) → is_taken subtree top (Some f) ≡ false → subtree f ≡ true → f ≡ top
  is_top f t s = same_fid_is f top (by (subtree f) (same_fid f top) s t)
    where
      by : (a b : Bool) → a ≡ true → (a && not b) ≡ false → b ≡ true
      by true true x y = refl
      by true false x y = absurd (true≢false y)
      by false b x y = absurd (true≢false (sym x))

  -- and it binds all of that still
  child_kept : (e : Fid) (n : Name) (f : Fid) → subtree e ≡ false → has_in after e ≡ true → child_in view e n ≡ Some f
      → is_taken subtree top (Some f) ≡ false → child_in after e n ≡ Some f
  child_kept e n f s there h free = by (at e)
    where
      by : RepairedAt subtree top source copies right view after e → child_in after e n ≡ Some f
      by (put held x o is) = absurd (true≢false (sym x ∙ s))
      by (went g x y b is) = absurd (true≢false (sym there ∙ ap is_some is))
      by (absent x o is) = absurd (true≢false (sym there ∙ ap is_some is))
      by (kept held x o is) = ap (λ c. finmap.get (bindings_of c) n) is ∙ spared_keeps subtree top held held.node.kind n f refl (ap (λ c. finmap.get (bindings_of c) n) (sym o) ∙ h) free

  -- ---- a tree

  has_inside : (f : Fid) → subtree f ≡ true → has_in after f ≡ true
  has_inside f s = let held = right_at f s in ap is_some (done.put f held.0 s held.1)

  -- outside, what isn't below an object of the subtree stays
  has_out : (f : Fid) → subtree f ≡ false → has_in view f ≡ true
      → ((g : Fid) → subtree g ≡ true → IsBelow (child_in view) g f → ⊥) → has_in after f ≡ true
  has_out f s h free = by (at f)
    where
      by : RepairedAt subtree top source copies right view after f → has_in after f ≡ true
      by (put held x o is) = ap is_some is
      by (went g x y b is) = absurd (free g y b)
      by (absent x o is) = absurd (true≢false (sym h ∙ ap is_some o))
      by (kept held x o is) = ap is_some is

  -- and what stays isn't below one
  not_below : (f : Fid) → subtree f ≡ false → has_in after f ≡ true → (g : Fid) → subtree g ≡ true
      → IsBelow (child_in view) g f → ⊥
  not_below f s h g y b = true≢false (sym h ∙ ap is_some (done.goes f s ((done.is_below f).1 (g, (y, b)))))

  has_view : (f : Fid) → subtree f ≡ false → has_in after f ≡ true → has_in view f ≡ true
  has_view f s h = by (at f)
    where
      by : RepairedAt subtree top source copies right view after f → has_in view f ≡ true
      by (put held x o is) = absurd (true≢false (sym x ∙ s))
      by (went g x y b is) = absurd (true≢false (sym h ∙ ap is_some is))
      by (absent x o is) = absurd (true≢false (sym h ∙ ap is_some is))
      by (kept held x o is) = ap is_some o

  binds_there : (d : Fid) (n : Name) (f : Fid) → child_in after d n ≡ Some f → has_in after d ≡ true
  binds_there d n f e = by (finmap.get after d) refl
    where
      by : (o : Option Held) → finmap.get after d ≡ o → has_in after d ≡ true
      by None is = absurd (some_none f (sym e ∙ ap (λ c. finmap.get (bindings_of c) n) is ∙ finmap.get-empty name_cmp n))
      by (Some held) is = ap is_some is

  outside_bound : (e : Fid) (n : Name) (f : Fid) → subtree e ≡ false → child_in after e n ≡ Some f
      → has_in after f ≡ true
  outside_bound e n f s h = by (subtree f) refl
    where
      was : child_in view e n ≡ Some f
      was = (child_out e n f s h).0

      by : (b : Bool) → subtree f ≡ b → has_in after f ≡ true
      by true x = has_inside f x
      by false x = has_out f x (view_tree.there e n f was) (λ g y b. up g y f refl b)
        where
          up : (g : Fid) → subtree g ≡ true → (q : Fid) → q ≡ f → IsBelow (child_in view) g q → ⊥
          up g y q same (itself z e) = true≢false (sym y ∙ ap subtree (sym e ∙ same) ∙ x)
          up g y q same (under p k z bound b) = not_below e s (binds_there e n f h) g y (subst (IsBelow (child_in view) g) (view_tree.once p k e n f (bound ∙ ap Some same) was).0 b)

  -- the way to the subtree stands: its directories are outside
  leads_below : (d : Fid) (n : Name) (rest : List Name) → LeadsAlike right view d (n ∷ rest) top
      → (e : Fid) × ((k : Name) × (IsBelow (child_in right) d e × (child_in right e k ≡ Some top)))
  leads_below d n [] w = (d, (n, (itself d refl, w.1.0 ∙ ap Some (sym w.1.1.1))))
  leads_below d n (m ∷ rest) w =
      let x = leads_below w.0 m rest w.1.1.1 in
      (x.0, (x.1.0, (below_below x.0 (under d n w.0 w.1.0 (itself d refl)) x.1.1.0, x.1.1.1)))

  on_way : (d : Fid) (n : Name) (rest : List Name) → LeadsAlike right view d (n ∷ rest) top → subtree d ≡ false
  on_way d n rest w = by (subtree d) refl
    where
      by : (b : Bool) → subtree d ≡ b → subtree d ≡ false
      by false s = s
      by true s =
          let x = leads_below d n rest w in
          absurd (no_cycle right_tree top d (right_tree.reached d (right_has d s)) ((below d).0 s) x.0 x.1.0 x.1.1.0 x.1.1.1)

  reaches : (d : Fid) (rest : List Name) → LeadsAlike right view d rest top → has_in after d ≡ true
      → IsBelow (child_in after) root d → IsBelow (child_in after) root top
  reaches d [] w there up = subst (IsBelow (child_in after) root) (sym w) up
  reaches d (n ∷ rest) w there up =
      let bound = child_kept d n w.0 (on_way d n rest w) there w.1.1.0 (free rest w.1.1.1) in
      reaches w.0 rest w.1.1.1 (outside_bound d n w.0 (on_way d n rest w) bound) (under d n w.0 bound up)
    where
      free : (more : List Name) → LeadsAlike right view w.0 more top → is_taken subtree top (Some w.0) ≡ false
      free [] same = ap (λ b. subtree w.0 && not b) (subst (λ x. same_fid w.0 x ≡ true) (sym same) (same_fid_refl w.0)) ∙ and_false (subtree w.0)
        where
          and_false : (b : Bool) → (b && false) ≡ false
          and_false true = refl
          and_false false = refl
      free (m ∷ more) x = ap (λ b. b && not (same_fid w.0 top)) (on_way w.0 m more x)

  root_there : has_in after root ≡ true
  root_there = by (subtree root) refl
    where
      none : (g : Fid) → subtree root ≡ false → subtree g ≡ true → (q : Fid) → q ≡ root → IsBelow (child_in view) g q
          → ⊥
      none g s y q same (itself z e) = true≢false (sym y ∙ ap subtree (sym e ∙ same) ∙ s)
      none g s y q same (under p k z bound b) = view_tree.unbound p k (bound ∙ ap Some same)

      by : (b : Bool) → subtree root ≡ b → has_in after root ≡ true
      by true s = has_inside root s
      by false s = has_out root s view_tree.rooted (λ g y b. none g s y root refl b)

  top_reached : IsBelow (child_in after) root top
  top_reached = reaches root names way root_there (itself root refl)

  inside_reached : (f : Fid) → IsBelow (child_in right) top f → IsBelow (child_in after) root f
  inside_reached f (itself g e) = subst (IsBelow (child_in after) root) (sym e) top_reached
  inside_reached f (under d n g bound up) = under d n f (child_inside d n ((below d).1 up) ∙ bound) (inside_reached d up)

  outside_reached : (f : Fid) → subtree f ≡ false → has_in after f ≡ true → IsBelow (child_in view) root f
      → IsBelow (child_in after) root f
  outside_reached f s h (itself g e) = itself f e
  outside_reached f s h (under d n g bound up) = by (subtree d) refl (λ y there. outside_reached d y there up)
    where
      by : (b : Bool) → subtree d ≡ b → (subtree d ≡ false → has_in after d ≡ true → IsBelow (child_in after) root d)
          → IsBelow (child_in after) root f
      by true y above = absurd (not_below f s h d y (under d n f bound (itself d refl)))
      by false y above =
          let there = has_out d y (view_tree.from d n f bound) (λ q z b. not_below f s h q z (under d n f bound b)) in
          under d n f (child_kept d n f y there bound (ap (λ b. b && not (same_fid f top)) s)) (above y there)

  pub repaired_tree : IsTreeView root after
  repaired_tree = record {
    rooted = root_there;
    unbound = λ d n e. unbound d n e (subtree d) refl;
    from = binds_there;
    there = λ d n f e. there d n f e (subtree d) refl;
    once = λ d n e k f a b. once d n e k f a b (subtree d) refl (subtree e) refl;
    reached = λ f e. reached f e (subtree f) refl;
  }
    where
      unbound : (d : Fid) (n : Name) → child_in after d n ≡ Some root → (b : Bool) → subtree d ≡ b → ⊥
      unbound d n e true s = right_tree.unbound d n (sym (child_inside d n s) ∙ e)
      unbound d n e false s = view_tree.unbound d n (child_out d n root s e).0

      there : (d : Fid) (n : Name) (f : Fid) → child_in after d n ≡ Some f → (b : Bool) → subtree d ≡ b
          → has_in after f ≡ true
      there d n f e true s = has_inside f (inside d n f s (sym (child_inside d n s) ∙ e))
      there d n f e false s = outside_bound d n f s e

      apart : (d : Fid) (n : Name) (e : Fid) (k : Name) (f : Fid) → subtree d ≡ true → child_in after d n ≡ Some f
          → subtree e ≡ false → child_in after e k ≡ Some f → ⊥
      apart d n e k f s a o b =
          let in_right : child_in right d n ≡ Some f = sym (child_inside d n s) ∙ a in
          let c = child_out e k f o b in
          top_not_inside d n s (in_right ∙ ap Some (is_top f c.1 (inside d n f s in_right)))

      once : (d : Fid) (n : Name) (e : Fid) (k : Name) (f : Fid) → child_in after d n ≡ Some f
          → child_in after e k ≡ Some f → (x : Bool) → subtree d ≡ x → (y : Bool) → subtree e ≡ y → (d ≡ e) × (n ≡ k)
      once d n e k f a b true s true o = right_tree.once d n e k f (sym (child_inside d n s) ∙ a) (sym (child_inside e k o) ∙ b)
      once d n e k f a b true s false o = absurd (apart d n e k f s a o b)
      once d n e k f a b false s true o = absurd (apart e k d n f o b s a)
      once d n e k f a b false s false o = view_tree.once d n e k f (child_out d n f s a).0 (child_out e k f o b).0

      reached : (f : Fid) → has_in after f ≡ true → (b : Bool) → subtree f ≡ b → IsBelow (child_in after) root f
      reached f e true s = inside_reached f ((below f).0 s)
      reached f e false s = outside_reached f s e (view_tree.reached f (has_view f s e))
