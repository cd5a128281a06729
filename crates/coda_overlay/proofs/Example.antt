-- A removal from elsewhere.
use Rattle.std.proofs.Common.{◌≡◌, ℕ, [], ◌∷◌, Option, Some, refl, sym, ap, ◌∙◌, arith}
use Rattle.std.specs.FinMap as map
use Rattle.std.proofs.lemmas.Cmp.{nat_list_cmp_total}
use Rattle.std.proofs.lemmas.Option.{none-some}
use Rattle.coda_fid.specs.Name.{name_cmp}
use Rattle.coda_fid.specs.declared.fid.Fid.{Fid}
use Rattle.coda_fid.specs.declared.fid.Sid.{Sid}
use Rattle.coda_fid.specs.declared.op.Op.TheVariants.{Create, Remove}
use Rattle.coda_fid.specs.declared.op.Record.{Record}
use Rattle.coda_tree.specs.declared.node.Node.{Node}
use Rattle.coda_tree.specs.Bindings.{Name}
use Rattle.coda_tree.specs.Volume.{child_of, bind_in}
use Rattle.coda_certify.specs.Replay.{empty_dir}
use Rattle.coda_overlay.specs.Overlaying.{IsOverlaid}
use Rattle.coda_overlay.specs.Laws.{PlacesMatter}

-- two directories, and an object that the client creates in the first and removes from the second, which binds it too
abbrev one : Fid
one = record { volume = 7; vnode = 0; uniq = 1 }

abbrev two : Fid
two = record { volume = 7; vnode = 0; uniq = 2 }

abbrev made : Fid
made = record { volume = 7; vnode = 1; uniq = 1 }

abbrev version : Sid
version = record { client = 1; number = 1 }

abbrev name : Name
name = 97 ∷ []

abbrev creation : Record
creation = record { number = 1; time = 0; op = Create one name made 420 0 }

abbrev removal : Record
removal = record { number = 2; time = 0; op = Remove two name made version }

abbrev given : Node
given = empty_dir 493 0 0 version

abbrev now : Option Node
now = Some (bind_in given name made)

led : IsOverlaid one 1 (Some given) (creation ∷ []) now
led = record {
  predates =
      record {
        not_created = refl;
        unbound = λ n fid is. absurd (none-some fid (sym (map.get-empty name_cmp n) ∙ is));
      };
  overlays = (record { dir_there = λ _. tt; free = λ _. map.get-empty name_cmp name }, refl);
}

bound : child_of now name ≡ Some made
bound = map.get-insert nat_list_cmp_total (map.empty {X = Fid} {R = name_cmp}) name made name

pub places_matter : PlacesMatter
places_matter law =
    let after : IsOverlaid one 1 (Some given) [] now = law one 1 (Some given) now (creation ∷ []) removal led (λ e. absurd (apart e)) (refl, λ n fid is. refl) in
    absurd (none-some made (sym (map.get-empty name_cmp name) ∙ (ap (λ o. child_of o name) after.overlays ∙ bound)))
  where
    apart : one ≡ two → ⊥
    apart e = absurd (differ (ap (λ (f : Fid). f.uniq) e))
      where
        differ : ◌≡◌ {A = ℕ} 1 2 → ⊥
        differ h = omega arith
