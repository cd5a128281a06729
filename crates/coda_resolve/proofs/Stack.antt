-- A walk with a stack.
use Rattle.std.proofs.Common.{◌≡◌, ◌<◌, ◌≤◌, ◌+◌, ◌-◌, ℕ, zero, suc, List, [], ◌∷◌, ◌++◌, Bor, Option, Some, None, option_copied, refl, sym, ap, ◌∙◌, subst, inl, inr, arith, append_assoc, length, drop, get_or, reverse}
use Rattle.std.specs.List.{flat_map, AllByRecursion}
use Rattle.coda_fid.specs.declared.fid.Fid.{Fid}
use Rattle.coda_resolve.specs.Resolution.{Replicas, fate_at}
use Rattle.coda_resolve.specs.Placement.{IsIn, AreTreesOfOneKind}
use Rattle.coda_resolve.specs.Outcome.{next_up, walk, levels_of, taken_up}
use Rattle.std.proofs.lemmas.List.{reverse-append, map-append, length-map}
use Rattle.std.proofs.Math.Seq.{drop-cons}
use Rattle.coda_resolve.specs.declared.walking.Taken.{Taken}
use Rattle.std.specs.FinMap as finmap
use Rattle.coda_fid.specs.Name.{name_cmp}
use Rattle.coda_tree.specs.Volume.{bindings}
use Rattle.coda_tree.specs.declared.node.NodeKind.TheVariants.{File, Link}
use Rattle.coda_reslog.specs.declared.change.Held.{Held}
use Rattle.coda_resolve.specs.Copies.{bindings_of}
use Rattle.coda_resolve.specs.Settling.{Fate, Same}
use Rattle.coda_resolve.specs.Taken.{fids_of, AreFates}
use Rattle.coda_resolve.proofs.Complete.{At, not_deep}
use Rattle.coda_resolve.proofs.Single.{next_from}

flat_same : {X Y : Type 0} (f g : X → List Y) (xs : List X) → ((x : X) → IsIn x xs → f x ≡ g x) → flat_map f xs ≡ flat_map g xs
flat_same f g [] h = refl
flat_same f g (x ∷ xs) h = (λ i. h x (inl refl) i ++ flat_map f xs) ∙ ap (λ rest. g x ++ rest) (flat_same f g xs (λ y s. h y (inr s)))

flat_both : {X Y : Type 0} (f : X → List Y) (xs ys : List X) → flat_map f (xs ++ ys) ≡ flat_map f xs ++ flat_map f ys
flat_both f [] ys = refl
flat_both f (x ∷ xs) ys = ap (λ rest. f x ++ rest) (flat_both f xs ys) ∙ sym (append_assoc (f x) (flat_map f xs) (flat_map f ys))

-- each of these is somewhere below the root
abbrev pub AllBelow : Replicas → Fid → List Fid → Type 0
AllBelow views root fids = AllByRecursion (λ g. (k : ℕ) × At views root k g) fids

module _ (views : Replicas) (root : Fid) (history : AreTreesOfOneKind views root) where
  -- further levels add nothing where all levels are there
  enough : (levels k : ℕ) (g : Fid) → At views root k g → levels_of views ≤ levels + k → walk levels views g ≡ walk (suc levels) views g
  enough zero k g a le = let lt = not_deep views root history k g a in absurd (omega arith)
  enough (suc levels) k g a le = ap (λ rest. g ∷ rest) (flat_same (walk levels views) (walk (suc levels) views) (next_up (fate_at views g)) (λ h s. enough levels (suc k) h (g, (next_from views root history g h s, a)) (omega arith)))

  -- all that is met from an object on
  abbrev pub all_from : Fid → List Fid
  all_from g = walk (levels_of views) views g

  pub from_here : (k : ℕ) (g : Fid) → At views root k g → all_from g ≡ g ∷ flat_map all_from (next_up (fate_at views g))
  from_here k g a = enough (levels_of views) k g a (omega arith)

  abbrev AreBelow : List Fid → Type 0
  AreBelow fids = AllBelow views root fids

  below_both : (xs ys : List Fid) → AreBelow xs → AreBelow ys → AreBelow (xs ++ ys)
  below_both [] ys a b = b
  below_both (x ∷ xs) ys a b = (a.0, below_both xs ys a.1 b)

  next_below : (k : ℕ) (g : Fid) (hs : List Fid) → At views root k g → ((h : Fid) → IsIn h hs → IsIn h (next_up (fate_at views g))) → AreBelow hs
  next_below k g [] a h = tt
  next_below k g (x ∷ hs) a h = ((suc k, (g, (next_from views root history g x (h x (inl refl)), a))), next_below k g hs a (λ y s. h y (inr s)))

  -- one object is taken from the pending ones, and what is taken up next comes in its place
  pub one_taken : (done pending rest after : List Fid) (g : Fid) → pending ≡ g ∷ rest → after ≡ next_up (fate_at views g) ++ rest → AreBelow pending → done ++ flat_map all_from pending ≡ taken_up views root → (AreBelow after) × ((done ++ g ∷ []) ++ flat_map all_from after ≡ taken_up views root)
  one_taken done pending rest after g is next below e =
      let parts : AreBelow (g ∷ rest) = subst AreBelow is below in
      let k = parts.0.0 in
      let a = parts.0.1 in (
        subst AreBelow (sym next) (below_both (next_up (fate_at views g)) rest (next_below k g (next_up (fate_at views g)) a (λ h s. s)) parts.1),
        (
            ap (λ fids. (done ++ g ∷ []) ++ flat_map all_from fids) next
            ∙ ap (λ fids. (done ++ g ∷ []) ++ fids) (flat_both all_from (next_up (fate_at views g)) rest)
            ∙ append_assoc done (g ∷ []) (flat_map all_from (next_up (fate_at views g)) ++ flat_map all_from rest)
            ∙ ap (λ fids. done ++ (fids ++ flat_map all_from rest)) (sym (from_here k g a))
            ∙ ap (λ fids. done ++ flat_map all_from fids) (sym is)
            ∙ e
            ),
      )

-- ---- the stack, whose top stands last

pub popped : (stack rest : List Fid) (g : Fid) → stack ≡ rest ++ g ∷ [] → reverse stack ≡ g ∷ reverse rest
popped stack rest g e = ap (λ l. reverse l) e ∙ reverse-append rest (g ∷ [])

pub pushed : (fids old new before : List Fid) (step : ℕ) (d : Fid) → step < length fids → new ≡ old ++ get_or fids (length fids - 1 - step) d ∷ [] → reverse old ≡ drop (length fids - step) fids ++ before → reverse new ≡ drop (length fids - (step + 1)) fids ++ before
pushed fids old new before step d lt is e =
    ap (λ l. reverse l) is
    ∙ reverse-append old (get_or fids (length fids - 1 - step) d ∷ [])
    ∙ ap (λ l. get_or fids (length fids - 1 - step) d ∷ l) e
    ∙ ap (λ l. l ++ before) (sym next)
  where
    next : drop (length fids - (step + 1)) fids ≡ get_or fids (length fids - 1 - step) d ∷ drop (length fids - step) fids
    next =
        (λ i. drop (place i) fids)
        ∙ drop-cons fids (length fids - 1 - step) d (omega arith)
        ∙ (λ i. get_or fids (length fids - 1 - step) d ∷ drop (after i) fids)
      where
        place : length fids - (step + 1) ≡ length fids - 1 - step
        place = omega arith

        after : suc (length fids - 1 - step) ≡ length fids - step
        after = omega arith

fates_more : (views : Replicas) (taken : List Taken) (f : Fid) (fate : Fate) → AreFates views taken → fate ≡ fate_at views f → AreFates views (taken ++ record { fid = f; fate = fate } ∷ [])
fates_more views [] f fate a e = (e, tt)
fates_more views (t ∷ taken) f fate a e = (a.0, fates_more views taken f fate a.1 e)

pub one_more_taken : (views : Replicas) (taken new : List Taken) (f : Fid) (fate : Fate) → new ≡ taken ++ record { fid = f; fate = fate } ∷ [] → AreFates views taken → fate ≡ fate_at views f → AreFates views new × (fids_of new ≡ fids_of taken ++ f ∷ [])
one_more_taken views taken new f fate is a e = (subst (AreFates views) (sym is) (fates_more views taken f fate a e), ap fids_of is ∙ map-append (λ (t : Taken). t.fid) taken (record { fid = f; fate = fate } ∷ []))

-- ---- files and links bind nothing

pub no_items : {X : Type 0} (xs : List X) → length xs ≡ 0 → xs ≡ []
no_items [] e = refl
no_items (x ∷ xs) e = absurd (omega arith)

no_values : finmap.values {X = Fid} (finmap.empty {R = name_cmp}) ≡ []
no_values = no_items (finmap.values {X = Fid} (finmap.empty {R = name_cmp})) (length-map (finmap.entries {X = Fid} (finmap.empty {R = name_cmp})) _ ∙ sym (finmap.len-entries (finmap.empty {R = name_cmp})) ∙ finmap.len-empty name_cmp Fid)

pub file_next : (fate : Fate) (held : Held) (content : List ℕ) → fate ≡ Same held → held.node.kind ≡ File content → next_up fate ≡ []
file_next fate held content is kind = ap next_up is ∙ ap (λ k. finmap.values (bindings k)) kind ∙ no_values

pub link_next : (fate : Fate) (held : Held) (target : List ℕ) → fate ≡ Same held → held.node.kind ≡ Link target → next_up fate ≡ []
link_next fate held target is kind = ap next_up is ∙ ap (λ k. finmap.values (bindings k)) kind ∙ no_values

pub absent_values : (copy : Option (Bor Held)) → copy ≡ None → finmap.values (bindings_of (option_copied copy)) ≡ []
absent_values copy is = ap (λ c. finmap.values (bindings_of (option_copied c))) is ∙ no_values

pub file_values : (copy : Option (Bor Held)) (held : Bor Held) → copy ≡ Some held → (content : List ℕ) → held.now.node.kind ≡ File content → finmap.values (bindings_of (option_copied copy)) ≡ []
file_values copy held is content kind = ap (λ c. finmap.values (bindings_of (option_copied c))) is ∙ ap (λ k. finmap.values (bindings k)) kind ∙ no_values

pub link_values : (copy : Option (Bor Held)) (held : Bor Held) → copy ≡ Some held → (target : List ℕ) → held.now.node.kind ≡ Link target → finmap.values (bindings_of (option_copied copy)) ≡ []
link_values copy held is target kind = ap (λ c. finmap.values (bindings_of (option_copied c))) is ∙ ap (λ k. finmap.values (bindings k)) kind ∙ no_values
