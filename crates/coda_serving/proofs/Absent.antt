-- Once an object is held that is offered and wasn't, fewer are absent.
use Rattle.std.proofs.Common.{◌≡◌, ◌≢◌, ℕ, ◌<◌, ◌≤◌, if◌then◌else◌, List, [], ◌∷◌, Option, Some, None, is_some, sym, ap, ◌∙◌, subst, inl, inr, arith}
use Rattle.std.specs.Prelude.{Result, Ok, Err, OnOk}
use Rattle.std.specs.FinMap as map
use Rattle.std.specs.FinMap.Entries.{find}
use Rattle.coda_fid.specs.Fid.{fid_cmp}
use Rattle.coda_fid.specs.declared.fid.Fid.{Fid}
use Rattle.coda_fid.proofs.Fids.{exact_fids, fids_total}
use Rattle.coda_tree.specs.declared.node.Node.{Node}
use Rattle.coda_tree.specs.Volume.{Nodes}
use Rattle.coda_tree.proofs.Order.{fid_cases, apart, get_here, get_else}
use Rattle.coda_serving.specs.Fetching.{offered, IsFetchable, absent_in, absent}

-- one object
abbrev lacks : Nodes → Fid → ℕ
lacks m fid = if is_some (map.get m fid) then 0 else 1

held_here : (m : Nodes) (fid f : Fid) (n : Node) → f ≡ fid → lacks (map.insert m fid n) f ≡ 0
held_here m fid f n same = ap (λ o. if is_some o then 0 else 1) (ap (map.get (map.insert m fid n)) same ∙ get_here fids_total m fid n)

held_else : (m : Nodes) (fid f : Fid) (n : Node) → f ≢ fid → lacks (map.insert m fid n) f ≡ lacks m f
held_else m fid f n off = ap (λ o. if is_some o then 0 else 1) (get_else fids_total exact_fids m fid n f off)

no_more : (m : Nodes) (fid : Fid) (n : Node) (es : List (Fid × Node)) → absent_in (map.insert m fid n) es ≤ absent_in m es
no_more m fid n [] = omega arith
no_more m fid n (e ∷ es) =
    let rest = no_more m fid n es in
    elim (fid_cases e.0 fid) [
      | inl same ↦ (let here = held_here m fid e.0 n same in omega (arith, here, rest))
      | inr off ↦ (let here = held_else m fid e.0 n off in omega (arith, here, rest))
    ]

fewer_in : (m : Nodes) (fid : Fid) (n there : Node) (es : List (Fid × Node)) → find fid_cmp fid es ≡ Some there → map.get m fid ≡ None → absent_in (map.insert m fid n) es < absent_in m es
fewer_in m fid n there [] found free = absurd (cc)
fewer_in m fid n there (e ∷ es) found free = elim (fid_cases fid e.0) [
  | inl same ↦ (
      let rest = no_more m fid n es in
      let here = held_here m fid e.0 n (sym same) in
      let before : lacks m e.0 ≡ 1 = ap (λ o. if is_some o then 0 else 1) (ap (map.get m) (sym same) ∙ free) in
      omega (arith, here, before, rest)
      )
  | inr off ↦ (
      let rest = fewer_in m fid n there es (sym (apart fid_cmp exact_fids fid e.0 (Some e.1) (find fid_cmp fid es) off) ∙ found) free in
      let here = held_else m fid e.0 n (λ same. off (sym same)) in
      omega (arith, here, rest)
      )
]

pub fewer : (offers : Option Nodes) (m : Nodes) (fid : Fid) (n there : Node) → offered offers fid ≡ Some there → map.get m fid ≡ None → absent offers (map.insert m fid n) < absent offers m
fewer None m fid n there offer free = absurd (cc)
fewer (Some volume) m fid n there offer free = fewer_in m fid n there (map.entries volume) (sym (map.get-entries volume fid) ∙ offer) free

-- where it was fetched
pub fewer_once : {A E : Type 0} (r : Result A E) (offers : Option Nodes) (old new : Nodes) (fid : Fid) (n : Node) → OnOk r (new ≡ map.insert old fid n) → IsFetchable offers old fid n → OnOk r (absent offers new < absent offers old)
fewer_once (Ok x) offers old new fid n held can = subst (λ m. absent offers m < absent offers old) (sym held) (fewer offers old fid n n can.offer can.missed.absent)
fewer_once (Err e) offers old new fid n held can = tt
