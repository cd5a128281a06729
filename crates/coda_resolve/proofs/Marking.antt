-- New marks, object by object.
use Rattle.std.proofs.Common.{◌≡◌, ◌+◌, ◌<◌, ℕ, List, [], ◌∷◌, ◌++◌, Option, Some, None, length, get_or, take, refl, sym, ap, ◌∙◌, suc, arith}
use Rattle.std.specs.Prelude.{option_to_list}
use Rattle.std.specs.List.{filter_map, cons_option}
use Rattle.std.proofs.Math.Seq.{take-suc}
use Rattle.std.proofs.lemmas.List.Elements.{filter_map-append}
use Rattle.coda_fid.specs.declared.fid.Fid.{Fid}
use Rattle.coda_resolve.specs.declared.walking.Taken.{Taken}
use Rattle.coda_resolve.specs.declared.why.Mark.{Mark}
use Rattle.coda_resolve.specs.Resolution.{Replicas, copies_at, fate_at}
use Rattle.coda_resolve.specs.Outcome.{mark_by, marks_of, taken_up}
use Rattle.coda_resolve.specs.Survey.{mark_at}
use Rattle.coda_resolve.specs.Taken.{fids_of, AreFates}

one_item : (o : Option Mark) → cons_option o [] ≡ option_to_list o
one_item None = refl
one_item (Some m) = refl

-- one object more
pub mark_more : (views : Replicas) (objects : List Taken) (i : ℕ) (t : Taken) (old new : List Mark) (mark : Option Mark) → i < length objects → t ≡ get_or objects i t → old ≡ filter_map (mark_at views) (take i objects) → mark ≡ mark_at views t → new ≡ old ++ option_to_list mark → new ≡ filter_map (mark_at views) (take (i + 1) objects)
mark_more views objects i t old new mark lt is sofar m e =
    e
    ∙ (λ j. sofar j ++ option_to_list (m j))
    ∙ ap (λ more. filter_map (mark_at views) (take i objects) ++ more) (sym (one_item (mark_at views t)))
    ∙ sym (filter_map-append (mark_at views) (take i objects) (t ∷ []))
    ∙ ap (filter_map (mark_at views)) (sym next)
  where
    one : i + 1 ≡ suc i
    one = omega arith

    next : take (i + 1) objects ≡ take i objects ++ t ∷ []
    next = ap (λ n. take n objects) one ∙ take-suc objects i t lt ∙ ap (λ x. take i objects ++ x ∷ []) (sym is)

marks_same : (views : Replicas) (objects : List Taken) → AreFates views objects → filter_map (mark_at views) objects ≡ filter_map (λ f. mark_by (copies_at views f) f (fate_at views f)) (fids_of objects)
marks_same views [] a = refl
marks_same views (t ∷ objects) a = λ i. cons_option (mark_by (copies_at views t.fid) t.fid (a.0 i)) (marks_same views objects a.1 i)

-- so the marks are those of what is taken up
pub marks_all : (views : Replicas) (root : Fid) (objects : List Taken) → AreFates views objects → fids_of objects ≡ taken_up views root → filter_map (mark_at views) objects ≡ marks_of views root
marks_all views root objects a e = marks_same views objects a ∙ ap (filter_map (λ f. mark_by (copies_at views f) f (fate_at views f))) e
