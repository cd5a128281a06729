-- Verdicts can be spelled: a reason names objects and versions of what can be spelled, and no volume has more objects than it may.
use Rattle.std.proofs.Common.{◌≡◌, ℕ, ◌<◌, ◌≤◌, ◌+◌, ◌-◌, Bool, true, false, not, cond, List, [], ◌∷◌, Option, Some, None, Ok, Err, refl, subst, inl, inr, arith}
use Rattle.std.specs.Prelude.{IfSome, nat_le}
use Rattle.std.specs.FinMap as map
use Rattle.std.proofs.lemmas.Bool.{lt-ltb}
use Rattle.std.proofs.lemmas.Bool.Decides.{nat_tests}
use Rattle.coda_fid.proofs.Fids.{fids_total}
use Rattle.coda_fid.specs.Fid.{fid_cmp, same_fid, same_sid, root_of}
use Rattle.coda_fid.specs.declared.fid.Fid.{Fid}
use Rattle.coda_fid.specs.declared.fid.Sid.{Sid}
use Rattle.coda_fid.specs.declared.op.Over.{Over}
use Rattle.coda_fid.specs.declared.op.Op.{Op}
use Rattle.coda_fid.specs.declared.op.Op.TheVariants.{Create, Mkdir, Symlink, Store, Setattr, Remove, Rmdir, Rename}
use Rattle.coda_fid.specs.declared.op.Record.{Record}
use Rattle.coda_tree.specs.declared.node.Node.{Node}
use Rattle.coda_tree.specs.declared.node.NodeKind.{NodeKind}
use Rattle.coda_tree.specs.declared.node.NodeKind.TheVariants.{File, Link, Dir}
use Rattle.coda_tree.specs.Bindings.{Name}
use Rattle.coda_tree.specs.Volume.{Nodes, fresh, fresh_root, child, is_at_fid, is_below, bind_in, unbind_in, written, Edit, Put, Bind, TakeOut, Unbind, Write, edited, edited_all}
use Rattle.coda_tree.proofs.SlotMap.{len_changed}
use Rattle.coda_certify.specs.declared.reason.Reason.{Reason}
use Rattle.coda_certify.specs.declared.reason.Reason.TheVariants.{NoDir, Marked, NoObject, WrongKind, NameTaken, NameOther, FidUsed, Changed, AttrChanged, NotEmpty, Loop, VolumeFull}
use Rattle.coda_certify.specs.Checks.{Check, IsADir, IsUnmarked, IsThere, IsAFile, IsNoDir, IsDirKind, IsApart, IsNameFree, IsBoundTo, IsFidFree, IsOfVersion, IsEmptyDir, IsNotAbove, HasRoom, checks, where_true, is_no_dir, is_dir, is_no_file, no_dir_of, marked_of, no_object_of, wrong_kind_of, name_taken_of, fid_used_of, change_of, version_of, not_empty_in, not_empty_of, reason_of, ◌otherwise◌, first_reason, certify}
use Rattle.coda_certify.specs.Replay.{effects, sid_of, applied, Replayed, unless_refused, replay}
use Rattle.coda_certify.specs.Verdicts.{verdict_of, nodes_left}
use Rattle.coda_record.specs.Parts.{u8}
use Rattle.coda_record.specs.Spelling.{HasSpelling}
use Rattle.coda_record.specs.Table as table
use Rattle.coda_spelling.specs.Spelled.{AreAllSpelled, AreSpelled}
use Rattle.coda_spelling.proofs.SpelledNodes.{after_operation}
use Rattle.coda_spelling.proofs.SpelledParts.{both_true, IsOpSpelled, over_parts, over_some, create_parts, mkdir_parts, symlink_parts, store_parts, setattr_parts, remove_parts, rmdir_parts, rename_parts}

-- ---- reasons

-- what a reason names can be spelled
abbrev IsReasonMade : Reason → Type 0
IsReasonMade (NoDir f) = HasSpelling table.fid f
IsReasonMade (Marked f) = HasSpelling table.fid f
IsReasonMade (NoObject f) = HasSpelling table.fid f
IsReasonMade (WrongKind f) = HasSpelling table.fid f
IsReasonMade (NameTaken f) = HasSpelling table.fid f
IsReasonMade (NameOther o) = IfSome o (λ f. HasSpelling table.fid f)
IsReasonMade (FidUsed f) = HasSpelling table.fid f
IsReasonMade (Changed kept found) = HasSpelling table.sid kept × HasSpelling table.sid found
IsReasonMade (AttrChanged kept found) = HasSpelling table.sid kept × HasSpelling table.sid found
IsReasonMade NotEmpty = Unit {0}
IsReasonMade Loop = Unit {0}
IsReasonMade (VolumeFull n) = n ≤ 100000

reason_spelled : (why : Reason) → IsReasonMade why → HasSpelling table.reason why
unfolding table.reason
reason_spelled (NoDir f) is = both_true _ _ is refl
reason_spelled (Marked f) is = both_true _ _ is refl
reason_spelled (NoObject f) is = both_true _ _ is refl
reason_spelled (WrongKind f) is = both_true _ _ is refl
reason_spelled (NameTaken f) is = both_true _ _ is refl
reason_spelled (NameOther None) is = refl
reason_spelled (NameOther (Some f)) is = both_true _ _ (both_true _ _ is refl) refl
reason_spelled (FidUsed f) is = both_true _ _ is refl
reason_spelled (Changed kept found) is = both_true _ _ is.0 (both_true _ _ is.1 refl)
reason_spelled (AttrChanged kept found) is = both_true _ _ is.0 (both_true _ _ is.1 refl)
reason_spelled NotEmpty is = refl
reason_spelled Loop is = refl
reason_spelled (VolumeFull n) is = both_true _ _ (lt-ltb n 18446744073709551616 (omega (arith, is))) refl

some_reason : (x y : Reason) → Some x ≡ Some y → x ≡ y
some_reason x y e = cc

found_is : (x why : Reason) → IsReasonMade x → Some x ≡ Some why → IsReasonMade why
found_is x why is e = subst IsReasonMade (some_reason x why e) is

where_is : (test : Bool) (x why : Reason) → IsReasonMade x → where_true test x ≡ Some why → IsReasonMade why
where_is true x why is e = found_is x why is e
where_is false x why is e = (let no : None ≡ Some why = e in cc)

-- ---- checks

-- what a check may name can be spelled
abbrev IsCheckSpelled : Check → Type 0
IsCheckSpelled (IsADir dir) = HasSpelling table.fid dir
IsCheckSpelled (IsUnmarked fid) = HasSpelling table.fid fid
IsCheckSpelled (IsThere fid) = HasSpelling table.fid fid
IsCheckSpelled (IsAFile fid) = HasSpelling table.fid fid
IsCheckSpelled (IsNoDir fid) = HasSpelling table.fid fid
IsCheckSpelled (IsDirKind fid) = HasSpelling table.fid fid
IsCheckSpelled (IsApart replaced fid) = HasSpelling table.fid fid
IsCheckSpelled (IsNameFree dir name) = Unit {0}
IsCheckSpelled (IsBoundTo dir name fid) = Unit {0}
IsCheckSpelled (IsFidFree fid) = HasSpelling table.fid fid
IsCheckSpelled (IsOfVersion fid pre) = HasSpelling table.sid pre
IsCheckSpelled (IsEmptyDir fid) = Unit {0}
IsCheckSpelled (IsNotAbove fid dir) = Unit {0}
IsCheckSpelled HasRoom = Unit {0}

abbrev AreChecksSpelled : List Check → Type 0
AreChecksSpelled [] = Unit {0}
AreChecksSpelled (check ∷ rest) = IsCheckSpelled check × AreChecksSpelled rest

rename_checked : (from_dir : Fid) (from : Name) (to_dir : Fid) (to : Name) (fid : Fid) (over : Option Over) → IsOpSpelled (Rename from_dir from to_dir to fid over) → AreChecksSpelled (checks (Rename from_dir from to_dir to fid over))
rename_checked from_dir from to_dir to fid None is =
    let p = rename_parts from_dir from to_dir to fid None is in
    (p.0, (p.2, (p.0, (p.2, (p.4, (p.4, (tt, (tt, (tt, tt)))))))))
rename_checked from_dir from to_dir to fid (Some over) is =
    let p = rename_parts from_dir from to_dir to fid (Some over) is in
    let o = over_parts over (over_some over p.5) in
    (p.0, (p.2, (p.0, (p.2, (p.4, (o.0, (p.4, (o.0, (o.0, (p.4, (p.4, (tt, (tt, (o.1, (tt, tt)))))))))))))))

checks_spelled : (op : Op) → IsOpSpelled op → AreChecksSpelled (checks op)
checks_spelled (Create dir name fid mode owner) is = let p = create_parts dir name fid mode owner is in (p.0, (p.0, (tt, (p.1, (tt, tt)))))
checks_spelled (Mkdir dir name fid mode owner) is = let p = mkdir_parts dir name fid mode owner is in (p.0, (p.0, (tt, (p.1, (tt, tt)))))
checks_spelled (Symlink dir name fid target mode owner) is = let p = symlink_parts dir name fid target mode owner is in (p.0, (p.0, (tt, (p.1, (tt, tt)))))
checks_spelled (Store fid pre content) is = let p = store_parts fid pre content is in (p.0, (p.0, (p.0, (p.1, tt))))
checks_spelled (Setattr fid pre attrs) is = let p = setattr_parts fid pre attrs is in (p.0, (p.0, (p.1, tt)))
checks_spelled (Remove dir name fid pre) is = let p = remove_parts dir name fid pre is in (p.0, (p.0, (p.2, (p.2, (p.2, (tt, (p.3, tt)))))))
checks_spelled (Rmdir dir name fid pre) is = let p = rmdir_parts dir name fid pre is in (p.0, (p.0, (p.2, (p.2, (p.2, (tt, (p.3, (tt, tt))))))))
checks_spelled (Rename from_dir from to_dir to fid over) is = rename_checked from_dir from to_dir to fid over is

module _ (m : Nodes) (are : AreSpelled m) (room : map.len m ≤ 100000) where
  no_dir_made : (o : Option Node) (dir : Fid) (why : Reason) → HasSpelling table.fid dir → no_dir_of o dir ≡ Some why → IsReasonMade why
  no_dir_made None dir why is e = found_is (NoDir dir) why is e
  no_dir_made (Some node) dir why is e = where_is (is_no_dir node.kind) (NoDir dir) why is e

  marked_made : (o : Option Node) (fid : Fid) (why : Reason) → HasSpelling table.fid fid → marked_of o fid ≡ Some why → IsReasonMade why
  marked_made None fid why is e = (let no : None ≡ Some why = e in cc)
  marked_made (Some node) fid why is e = where_is node.marked (Marked fid) why is e

  no_object_made : (o : Option Node) (fid : Fid) (why : Reason) → HasSpelling table.fid fid → no_object_of o fid ≡ Some why → IsReasonMade why
  no_object_made None fid why is e = found_is (NoObject fid) why is e
  no_object_made (Some node) fid why is e = (let no : None ≡ Some why = e in cc)

  wrong_kind_made : (wrong : NodeKind → Bool) (o : Option Node) (fid : Fid) (why : Reason) → HasSpelling table.fid fid → wrong_kind_of wrong o fid ≡ Some why → IsReasonMade why
  wrong_kind_made wrong None fid why is e = (let no : None ≡ Some why = e in cc)
  wrong_kind_made wrong (Some node) fid why is e = where_is (wrong node.kind) (WrongKind fid) why is e

  fid_used_made : (o : Option Node) (fid : Fid) (why : Reason) → HasSpelling table.fid fid → fid_used_of o fid ≡ Some why → IsReasonMade why
  fid_used_made None fid why is e = (let no : None ≡ Some why = e in cc)
  fid_used_made (Some node) fid why is e = found_is (FidUsed fid) why is e

  -- what a directory binds
  bound_made : (dir : Fid) (name : Name) (o : Option Fid) → child m dir name ≡ o → IfSome o (λ f. HasSpelling table.fid f)
  bound_made dir name None e = tt
  bound_made dir name (Some fid) e = are.bound dir fid name e

  name_taken_made : (o : Option Fid) (why : Reason) → IfSome o (λ f. HasSpelling table.fid f) → name_taken_of o ≡ Some why → IsReasonMade why
  name_taken_made None why is e = (let no : None ≡ Some why = e in cc)
  name_taken_made (Some fid) why is e = found_is (NameTaken fid) why is e

  change_made : (kind : NodeKind) (kept found : Sid) → HasSpelling table.sid kept → HasSpelling table.sid found → IsReasonMade (change_of kind kept found)
  change_made (File content) kept found k f = (k, f)
  change_made (Link target) kept found k f = (k, f)
  change_made (Dir entries) kept found k f = (k, f)

  version_made : (o : Option Node) (fid : Fid) (pre : Sid) (why : Reason) → map.get m fid ≡ o → HasSpelling table.sid pre → version_of o pre ≡ Some why → IsReasonMade why
  version_made None fid pre why at is e = (let no : None ≡ Some why = e in cc)
  version_made (Some node) fid pre why at is e = where_is (not (same_sid node.sid pre)) (change_of node.kind pre node.sid) why (change_made node.kind pre node.sid is (are.versions fid node at)) e

  not_empty_made : (kind : NodeKind) (why : Reason) → not_empty_in kind ≡ Some why → IsReasonMade why
  not_empty_made (File content) why e = (let no : None ≡ Some why = e in cc)
  not_empty_made (Link target) why e = (let no : None ≡ Some why = e in cc)
  not_empty_made (Dir entries) why e = where_is _ NotEmpty why tt e

  not_empty_at : (o : Option Node) (why : Reason) → not_empty_of o ≡ Some why → IsReasonMade why
  not_empty_at None why e = (let no : None ≡ Some why = e in cc)
  not_empty_at (Some node) why e = not_empty_made node.kind why e

  check_made : (check : Check) (why : Reason) → IsCheckSpelled check → reason_of m check ≡ Some why → IsReasonMade why
  check_made (IsADir dir) why is e = no_dir_made (map.get m dir) dir why is e
  check_made (IsUnmarked fid) why is e = marked_made (map.get m fid) fid why is e
  check_made (IsThere fid) why is e = no_object_made (map.get m fid) fid why is e
  check_made (IsAFile fid) why is e = wrong_kind_made is_no_file (map.get m fid) fid why is e
  check_made (IsNoDir fid) why is e = wrong_kind_made is_dir (map.get m fid) fid why is e
  check_made (IsDirKind fid) why is e = wrong_kind_made is_no_dir (map.get m fid) fid why is e
  check_made (IsApart replaced fid) why is e = where_is (same_fid replaced fid) (WrongKind fid) why is e
  check_made (IsNameFree dir name) why is e = name_taken_made (child m dir name) why (bound_made dir name (child m dir name) refl) e
  check_made (IsBoundTo dir name fid) why is e = where_is (not (is_at_fid (child m dir name) fid)) (NameOther (child m dir name)) why (bound_made dir name (child m dir name) refl) e
  check_made (IsFidFree fid) why is e = fid_used_made (map.get m fid) fid why is e
  check_made (IsOfVersion fid pre) why is e = version_made (map.get m fid) fid pre why refl is e
  check_made (IsEmptyDir fid) why is e = not_empty_at (map.get m fid) why e
  check_made (IsNotAbove fid dir) why is e = where_is (is_below m dir fid) Loop why tt e
  check_made HasRoom why is e = where_is (nat_le 100000 (map.len m)) (VolumeFull (map.len m)) why room e

  first_made : (cs : List Check) (why : Reason) → AreChecksSpelled cs → first_reason m cs ≡ Some why → IsReasonMade why
  first_made [] why is e = (let no : None ≡ Some why = e in cc)
  first_made (check ∷ cs) why is e = or_later (reason_of m check) (first_reason m cs) (λ w h. check_made check w is.0 h) (λ h. first_made cs why is.1 h) e
    where
      or_later : (o rest : Option Reason) → ((w : Reason) → o ≡ Some w → IsReasonMade w) → (rest ≡ Some why → IsReasonMade why) → (o otherwise rest) ≡ Some why → IsReasonMade why
      or_later None rest here later h = later h
      or_later (Some w) rest here later h = here why h

  -- the reason to refuse an operation
  refused_spelled : (op : Op) (why : Reason) → IsOpSpelled op → certify m op ≡ Some why → HasSpelling table.reason why
  unfolding certify
  refused_spelled op why is e = reason_spelled why (first_made (checks op) why (checks_spelled op is) e)

-- ---- room

-- how many objects an edit puts
abbrev puts : Edit → ℕ
puts (Put f node) = 1
puts (Bind d name f) = 0
puts (TakeOut f) = 0
puts (Unbind d name) = 0
puts (Write f patch sid) = 0

abbrev puts_all : List Edit → ℕ
puts_all [] = 0
puts_all (edit ∷ edits) = puts edit + puts_all edits

pub at_most_one_more : (b : Bool) (n : ℕ) → cond b n (n + 1) ≤ n + 1
at_most_one_more true n = omega arith
at_most_one_more false n = omega arith

no_more : (b : Bool) (n : ℕ) → cond b (n - 1) n ≤ n
no_more true n = omega arith
no_more false n = omega arith

len_edited : (m : Nodes) (edit : Edit) → map.len (edited m edit) ≤ map.len m + puts edit
len_edited m (Put f node) = let e = map.len-insert fids_total m f node in let most = at_most_one_more (map.contains_key m f) (map.len m) in omega (arith, e, most)
len_edited m (Bind d name f) = let e = len_changed m d (λ node. bind_in node name f) in omega (arith, e)
len_edited m (TakeOut f) = let e = map.len-remove fids_total m f in let most = no_more (map.contains_key m f) (map.len m) in omega (arith, e, most)
len_edited m (Unbind d name) = let e = len_changed m d (λ node. unbind_in node name) in omega (arith, e)
len_edited m (Write f patch sid) = let e = len_changed m f (written patch sid) in omega (arith, e)

len_all : (m : Nodes) (edits : List Edit) → map.len (edited_all m edits) ≤ map.len m + puts_all edits
len_all m [] = omega arith
len_all m (edit ∷ edits) = let first = len_edited m edit in let rest = len_all (edited m edit) edits in omega (arith, first, rest)

-- checks that found nothing
abbrev AreClear : Nodes → List Check → Type 0
AreClear m [] = Unit {0}
AreClear m (check ∷ cs) = (reason_of m check ≡ None) × AreClear m cs

none_here : (o rest : Option Reason) → (o otherwise rest) ≡ None → (o ≡ None) × (rest ≡ None)
none_here None rest e = (refl, e)
none_here (Some why) rest e = (let no : Some why ≡ None = e in cc)

clear : (m : Nodes) (cs : List Check) → first_reason m cs ≡ None → AreClear m cs
clear m [] e = tt
clear m (check ∷ cs) e = let both = none_here (reason_of m check) (first_reason m cs) e in (both.0, clear m cs both.1)

not_full : (n : ℕ) → where_true (nat_le 100000 n) (VolumeFull n) ≡ None → n < 100000
not_full n e = elim (nat_le 100000 n) as (λ b. nat_le 100000 n ≡ b → where_true b (VolumeFull n) ≡ None → n < 100000) [
  | true ↦ λ is h. (let no : Some (VolumeFull n) ≡ None = h in cc)
  | false ↦ λ is h. grind (arith, nat_tests, is)
] refl e

-- an operation that certifies puts an object only where there is room
puts_few : (m : Nodes) (time : ℕ) (sid : Sid) (op : Op) → first_reason m (checks op) ≡ None → map.len m ≤ 100000 → map.len m + puts_all (effects time sid op) ≤ 100000
puts_few m time sid (Create dir name fid mode owner) e room = let few = not_full (map.len m) (clear m (checks (Create dir name fid mode owner)) e).1.1.1.1.0 in omega (arith, few)
puts_few m time sid (Mkdir dir name fid mode owner) e room = let few = not_full (map.len m) (clear m (checks (Mkdir dir name fid mode owner)) e).1.1.1.1.0 in omega (arith, few)
puts_few m time sid (Symlink dir name fid target mode owner) e room = let few = not_full (map.len m) (clear m (checks (Symlink dir name fid target mode owner)) e).1.1.1.1.0 in omega (arith, few)
puts_few m time sid (Store fid pre content) e room = omega (arith, room)
puts_few m time sid (Setattr fid pre attrs) e room = omega (arith, room)
puts_few m time sid (Remove dir name fid pre) e room = omega (arith, room)
puts_few m time sid (Rmdir dir name fid pre) e room = omega (arith, room)
puts_few m time sid (Rename from_dir from to_dir to fid None) e room = omega (arith, room)
puts_few m time sid (Rename from_dir from to_dir to fid (Some over)) e room = omega (arith, room)

room_after : (m : Nodes) (client : ℕ) (rec : Record) → certify m rec.op ≡ None → map.len m ≤ 100000 → map.len (applied m client rec) ≤ 100000
unfolding certify applied
room_after m client rec e room =
    let few = puts_few m rec.time (sid_of client rec) rec.op e room in
    let most = len_all m (effects rec.time (sid_of client rec) rec.op) in
    omega (arith, few, most)

-- ---- verdicts

ok_nodes : (x y : Nodes) → (let ok : Nodes → Replayed = λ z. Ok z in ok x ≡ ok y) → x ≡ y
ok_nodes x y h = cc

err_pair : (x y : ℕ × Reason) → (let err : ℕ × Reason → Replayed = λ z. Err z in err x ≡ err y) → x ≡ y
err_pair x y h = cc

-- a replay leaves as many objects as there may be
goes_on : (o : Option Reason) (number : ℕ) (rest : Replayed) (nodes : Nodes) → (o ≡ None → rest ≡ Ok nodes → map.len nodes ≤ 100000) → unless_refused o number rest ≡ Ok nodes → map.len nodes ≤ 100000
goes_on None number rest nodes then_ h = then_ refl h
goes_on (Some why) number rest nodes then_ h = cc

room_replayed : (m : Nodes) (client : ℕ) (recs : List Record) (nodes : Nodes) → map.len m ≤ 100000 → replay m client recs ≡ Ok nodes → map.len nodes ≤ 100000
room_replayed m client [] nodes room e = subst (λ (n : Nodes). map.len n ≤ 100000) (ok_nodes m nodes e) room
room_replayed m client (rec ∷ recs) nodes room e =
    goes_on (certify m rec.op) rec.number (replay (applied m client rec) client recs) nodes (λ passes h. room_replayed (applied m client rec) client recs nodes (room_after m client rec passes room) h) e

-- what a replay is refused for can be spelled
abbrev IsRefusalSpelled : ℕ × Reason → Type 0
IsRefusalSpelled e = HasSpelling table.ordinal e.0 × HasSpelling table.reason e.1

refused_or : (o : Option Reason) (number : ℕ) (rest : Replayed) (e : ℕ × Reason) → ((why : Reason) → o ≡ Some why → IsRefusalSpelled (number, why)) → (o ≡ None → rest ≡ Err e → IsRefusalSpelled e) → unless_refused o number rest ≡ Err e → IsRefusalSpelled e
refused_or None number rest e here later h = later refl h
refused_or (Some why) number rest e here later h = subst IsRefusalSpelled (err_pair (number, why) e h) (here why refl)

refusal_spelled : (m : Nodes) (client : ℕ) (recs : List Record) (e : ℕ × Reason) → AreSpelled m → map.len m ≤ 100000 → HasSpelling u8 client → AreAllSpelled recs → replay m client recs ≡ Err e → IsRefusalSpelled e
refusal_spelled m client [] e are room number is h = cc
refusal_spelled m client (rec ∷ recs) e are room number is h =
    refused_or (certify m rec.op) rec.number (replay (applied m client rec) client recs) e (λ why at. (is.0.number, refused_spelled m are room rec.op why is.0.op at))
    (λ passes at. refusal_spelled (applied m client rec) client recs e (after_operation m client rec are number is.0) (room_after m client rec passes room) number is.1 at) h

-- a replay leaves as many objects as there may be, and its verdict can be spelled
pub room_left : (m : Nodes) (client : ℕ) (recs : List Record) → map.len m ≤ 100000 → map.len (nodes_left m (replay m client recs)) ≤ 100000
room_left m client recs room = by (replay m client recs) refl
  where
    by : (r : Replayed) → replay m client recs ≡ r → map.len (nodes_left m r) ≤ 100000
    by (Err why) e = room
    by (Ok nodes) e = room_replayed m client recs nodes room e

verdict_from : (r : Replayed) → ((e : ℕ × Reason) → r ≡ Err e → IsRefusalSpelled e) → HasSpelling table.verdict (verdict_of r)
unfolding table.verdict
verdict_from (Ok nodes) refusal = refl
verdict_from (Err why) refusal = let s = refusal why refl in both_true _ _ s.0 (both_true _ _ s.1 refl)

pub verdict_spelled : (m : Nodes) (client : ℕ) (recs : List Record) → AreSpelled m → map.len m ≤ 100000 → HasSpelling u8 client → AreAllSpelled recs → HasSpelling table.verdict (verdict_of (replay m client recs))
verdict_spelled m client recs are room number is = verdict_from (replay m client recs) (λ e h. refusal_spelled m client recs e are room number is h)

-- a fresh volume has its root alone
pub fresh_room : (volume : ℕ) → map.len (fresh volume).nodes ≤ 100000
fresh_room volume =
    let nothing : Nodes = map.empty in
    let none = map.len-empty fid_cmp Node in
    let one = map.len-insert fids_total nothing (root_of volume) fresh_root in
    let most = at_most_one_more (map.contains_key nothing (root_of volume)) (map.len nothing) in
    omega (arith, none, one, most)
