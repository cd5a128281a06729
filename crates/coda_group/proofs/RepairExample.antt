-- A new volume is repaired at its root: the premises of a repair can be met.
use Rattle.std.proofs.Common.{◌≡◌, ◌≢◌, ℕ, true, false, List, [], ◌∷◌, Some, None, refl, sym, ap, ◌∙◌, subst, inl, inr}
use Rattle.std.specs.FinMap as finmap
use Rattle.std.proofs.lemmas.Bool.{true≢false}
use Rattle.coda_fid.specs.Fid.{root_of, same_fid, fid_cmp}
use Rattle.coda_fid.specs.declared.fid.Fid.{Fid}
use Rattle.coda_fid.proofs.Fids.{fids_total, exact_fids, same_fid_is, same_fid_refl}
use Rattle.coda_tree.specs.Tree.{IsBelow, itself, under}
use Rattle.coda_tree.proofs.Order.{get_here, get_else}
use Rattle.coda_reslog.specs.declared.change.Held.{Held}
use Rattle.coda_resolve.specs.Copies.{Copies}
use Rattle.coda_resolve.specs.Resolution.{copies_at, child_in}
use Rattle.coda_resolve.proofs.Lists.{some_none}
use Rattle.coda_lineage.specs.Lineage.{new_root}
use Rattle.coda_lineage.specs.Repairs.{repaired, spared, IsRepairedAt}
use Rattle.coda_lineage.proofs.Booleans.{the_some}
use Rattle.coda_plain.specs.Objects.{Objects}
use Rattle.coda_plain.specs.Cell.{empty_cell}
use Rattle.coda_group.specs.Holdings.{new_objects}
use Rattle.coda_group.specs.Steps.{Install, last_at, IsRepair, MayRepair}
use Rattle.coda_group.specs.Laws.{two_servers, SomeVolumeIsRepaired}
use Rattle.coda_group.proofs.Example.{bare_new}

abbrev root : Fid
root = root_of 7

abbrev new : Objects
new = new_objects 7

away : (f : Fid) → f ≢ root → finmap.get new f ≡ None
away f apart = get_else fids_total exact_fids finmap.empty root new_root f apart ∙ finmap.get-empty fid_cmp f

copies : Fid → Copies
copies f = copies_at (new ∷ new ∷ []) f

abbrev right : Held
right = repaired 1 (copies root) new_root

left : ℕ → Objects
left server = finmap.insert finmap.empty root right

below_root : (f : Fid) → IsBelow (child_in new) root f → f ≡ root
below_root f (itself g is) = is
below_root f (under d n g child below) = absurd (some_none g (sym child ∙ (bare_new 7).none d n))

at_root : (f : Fid) (held : Held) → same_fid f root ≡ true → finmap.get new f ≡ Some held
    → finmap.get (left 1) f ≡ Some (repaired 1 (copies f) held)
unfolding left copies
at_root f held same there =
    let is = same_fid_is f root same in
    let it : new_root ≡ held = the_some new_root held (sym (get_here fids_total finmap.empty root new_root) ∙ ap (finmap.get new) (sym is) ∙ there) in
    ap (finmap.get (finmap.insert finmap.empty root right)) is ∙ get_here fids_total finmap.empty root right ∙ ap
    (λ g. Some (repaired 1 (copies g) new_root)) (sym is) ∙ ap (λ h. Some (repaired 1 (copies f) h)) it

else_root : (f : Fid) → same_fid f root ≡ false
    → finmap.get (left 1) f ≡ spared (λ g. same_fid g root) root (finmap.get new f)
unfolding left
else_root f out =
    let apart : f ≢ root = λ is. true≢false (sym (subst (λ g. same_fid f g ≡ true) is (same_fid_refl f)) ∙ out) in
    get_else fids_total exact_fids finmap.empty root right f apart ∙ finmap.get-empty fid_cmp f ∙ ap
    (spared (λ g. same_fid g root) root) (sym (away f apart))

is_repaired : IsRepairedAt (λ f. same_fid f root) root 1 copies new new (left 1)
is_repaired = record {
  put = at_root;
  below = λ f. same_fid f root;
  is_below = λ f. (
    (λ e. (root, (same_fid_refl root, itself f (same_fid_is f root e)))),
    (λ w. subst (λ g. same_fid g root ≡ true)
        (sym (below_root f (subst (λ g. IsBelow (child_in new) g f) (same_fid_is w.0 root w.1.0) w.1.1)))
        (same_fid_refl root)),
  );
  goes = λ f out below. absurd (true≢false (sym below ∙ out));
  stays = λ f out. else_root f out;
}

repair : IsRepair empty_cell 7 1 [] (1 ∷ 2 ∷ [])
repair = record {
  top = root;
  leads = λ s i. refl;
  subtree = λ f. same_fid f root;
  below = λ f. (
    (λ e. itself f (same_fid_is f root e)),
    (λ w. subst (λ g. same_fid g root ≡ true) (sym (below_root f w)) (same_fid_refl root)),
  );
}

abbrev installs : List Install
installs = record { server = 1; objects = left 1 } ∷ record { server = 2; objects = left 2 } ∷ []

may_repair : MayRepair two_servers empty_cell 7 1 [] (1 ∷ 2 ∷ []) (last_at empty_cell 7) installs None
unfolding left copies repair
may_repair = record {
  among = λ s i. i;
  up = λ s i. refl;
  source_in = inl refl;
  repair = repair;
  own = λ s c. refl;
  installed = (
    record { among = inl refl; untouched = refl; left = is_repaired },
    (record { among = inr (inl refl); untouched = refl; left = is_repaired }, tt),
  );
}

pub some_volume_is_repaired : SomeVolumeIsRepaired
some_volume_is_repaired = (installs, may_repair)
