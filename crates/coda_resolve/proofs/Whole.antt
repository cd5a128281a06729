-- A second resolution of a whole volume.
use Rattle.std.proofs.Common.{◌≡◌, Bool, true, false, [], ◌∷◌, Option, Some, None, is_some, refl, sym, ap, ◌∙◌, subst, map}
use Rattle.std.proofs.lemmas.Bool.{true≢false}
use Rattle.coda_fid.specs.declared.fid.Fid.{Fid}
use Rattle.coda_tree.specs.declared.node.NodeKind.{NodeKind}
use Rattle.coda_tree.specs.declared.node.NodeKind.TheVariants.{File, Link, Dir}
use Rattle.coda_reslog.specs.declared.change.Held.{Held}
use Rattle.coda_resolve.specs.declared.why.Why.{Why}
use Rattle.coda_resolve.specs.Copies.{Copies, first_some}
use Rattle.coda_resolve.specs.Merged.{attributes_of}
use Rattle.coda_resolve.specs.Causes.{cause}
use Rattle.coda_resolve.specs.Settling.{Fate, Same, Marked, Gone, dir_fate, leaf_fate, fate_by, fate_from, fate, settled_copy, settled, is_new}
use Rattle.coda_resolve.specs.Settled.{AreOneKind}
use Rattle.coda_resolve.specs.Resolution.{Replicas, copies_at, fate_at, settled_at, IsTakenUp, at_root, below, IsResolved}
use Rattle.coda_resolve.proofs.Again.{attributes_cause}
use Rattle.coda_resolve.proofs.Twice.{resolved_stay, marked_stay, is_same, is_gone}

-- ---- what no replica has

-- an object of which nothing becomes is one that no replica has
pub gone_absent : (copies : Copies) (look : Fid → Copies) (lowest : Option Held) → fate_from copies look lowest ≡ Gone → lowest ≡ None
gone_absent copies look None e = refl
gone_absent copies look (Some low) e = absurd (by_kind low.node.kind e)
  where
    leaf : (b : Bool) (o : Option Held) → leaf_fate b o ≡ Gone → ⊥
    leaf true o e = true≢false (sym (ap is_gone e))
    leaf false None e = true≢false (sym (ap is_gone e))
    leaf false (Some held) e = true≢false (sym (ap is_gone e))

    dir : (why : Option Why) (from : Option Held) → cause copies look ≡ why → attributes_of copies ≡ from → dir_fate copies why from ≡ Gone → ⊥
    dir (Some why) from a b e = true≢false (sym (ap is_gone e))
    dir None (Some held) a b e = true≢false (sym (ap is_gone e))
    dir None None a b e = true≢false (sym (ap is_some (sym b ∙ (attributes_cause copies look a).1)))

    by_kind : (k : NodeKind) → fate_by copies look k ≡ Gone → ⊥
    by_kind (File content) e = leaf _ _ e
    by_kind (Link target) e = leaf _ _ e
    by_kind (Dir entries) e = dir (cause copies look) (attributes_of copies) refl refl e

untouched : (lowest : Option Held) (copies : Copies) → map (settled_copy Gone lowest) copies ≡ copies
untouched lowest [] = refl
untouched lowest (copy ∷ copies) = λ i. copy ∷ untouched lowest copies i

same_twice : (held : Held) (a b : Option Held) (copies : Copies) → map (settled_copy (Same held) a) (map (settled_copy (Same held) b) copies) ≡ map (settled_copy (Same held) b) copies
same_twice held a b [] = refl
same_twice held a b (copy ∷ copies) = λ i. Some held ∷ same_twice held a b copies i

absent_fate : (copies : Copies) (look : Fid → Copies) → first_some copies ≡ None → fate copies look ≡ Gone
absent_fate copies look e = ap (fate_from copies look) e

-- ---- one object

-- what a second resolution does to the copies that the first leaves
abbrev StaysSettled : Copies → (Fid → Copies) → (Fid → Copies) → Type 0
StaysSettled copies look later = ((held : Held) → fate (settled copies look) later ≡ Same held → fate copies look ≡ Same held) × ((settled (settled copies look) later ≡ settled copies look) × (is_new (settled copies look) (fate (settled copies look) later) ≡ false))

stays_settled : (copies : Copies) (look later : Fid → Copies) → AreOneKind copies → StaysSettled copies look later
stays_settled copies look later kinds = by_fate (fate copies look) refl
  where
    by_fate : (result : Fate) → fate copies look ≡ result → StaysSettled copies look later
    by_fate (Same held) e =
        let again = resolved_stay copies look later held kinds e in (
          λ other f. e ∙ sym again ∙ f,
          (
            (ap (λ r. map (settled_copy r (first_some (settled copies look))) (settled copies look)) again ∙ ap (λ r. map (settled_copy (Same held) (first_some (settled copies look))) (map (settled_copy r (first_some copies)) copies)) e ∙ same_twice held (first_some (settled copies look)) (first_some copies) copies ∙ ap (λ r. map (settled_copy r (first_some copies)) copies) (sym e)),
            ap (is_new (settled copies look)) again,
          ),
        )
    by_fate (Marked why) e =
        let again = marked_stay copies look later why e in (
          λ other f. absurd (true≢false (ap is_same (sym f ∙ again.0))),
          (again.1.0, ap (is_new (settled copies look)) again.0 ∙ again.1.1),
        )
    by_fate Gone e =
        let absent = gone_absent copies look (first_some copies) e in
        let still : settled copies look ≡ copies = ap (λ r. map (settled_copy r (first_some copies)) copies) e ∙ untouched (first_some copies) copies in
        let again : fate (settled copies look) later ≡ Gone = absent_fate (settled copies look) later (ap first_some still ∙ absent) in (
          λ other f. absurd (true≢false (ap is_same (sym f ∙ again))),
          (
            ap (λ r. map (settled_copy r (first_some (settled copies look))) (settled copies look)) again ∙ untouched (first_some (settled copies look)) (settled copies look),
            ap (is_new (settled copies look)) again,
          ),
        )

-- ---- the volume

module _ (views later : Replicas) (root : Fid) (kinds : (g : Fid) → AreOneKind (copies_at views g)) (resolved : IsResolved views root later) where
  stays_at : (f : Fid) → IsTakenUp views root f → ((held : Held) → fate_at later f ≡ Same held → fate_at views f ≡ Same held) × ((settled_at later f ≡ copies_at later f) × (is_new (copies_at later f) (fate_at later f) ≡ false))
  stays_at f up = subst (λ c. ((held : Held) → fate c (copies_at later) ≡ Same held → fate_at views f ≡ Same held) × ((settled c (copies_at later) ≡ c) × (is_new c (fate c (copies_at later)) ≡ false))) (sym (resolved f up)) (stays_settled (copies_at views f) (copies_at views) (copies_at later) (kinds f))

  same_taken : (f : Fid) → IsTakenUp later root f → IsTakenUp views root f
  same_taken g (at_root f e) = at_root f e
  same_taken g (below d n f held e is up) = below d n f held ((stays_at d (same_taken d up)).0 held e) is (same_taken d up)

  pub second_changes_nothing : (f : Fid) → IsTakenUp later root f → IsTakenUp views root f × ((settled_at later f ≡ copies_at later f) × (is_new (copies_at later f) (fate_at later f) ≡ false))
  second_changes_nothing f up = (same_taken f up, (stays_at f (same_taken f up)).1)
