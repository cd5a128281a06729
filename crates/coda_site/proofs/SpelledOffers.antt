-- Each object of a replica that is up can be spelled, since the records that its journal keeps can be.
use Rattle.std.proofs.Common.{◌≡◌, ℕ, ◌+◌, ◌-◌, ◌<◌, ◌≤◌, Bool, true, false, cond, List, [], ◌∷◌, ◌++◌, length, get_or, Option, Some, None, Ok, Err, option_map, refl, sym, ap, subst, ◌∙◌, inl, inr, arith}
use Rattle.std.specs.Prelude.{IfSome, ◌&&◌, nat_lt}
use Rattle.std.specs.List.{flat_map}
use Rattle.std.specs.Int.{w32}
use Rattle.std.specs.FinMap as map
use Rattle.std.proofs.lemmas.Cmp.{nat_list_cmp_total, tied_itself}
use Rattle.std.proofs.lemmas.Bool.{ltb-true}
use Rattle.std.proofs.lemmas.List.{length-append}
use Rattle.std.proofs.lemmas.Map.Lookups.{exact_bytes}
use Rattle.std.proofs.lemmas.Option.{get_or_from_slice_get}
use Rattle.coda_fid.specs.Fid.{root_of}
use Rattle.coda_fid.specs.Name.{name_cmp}
use Rattle.coda_fid.specs.declared.fid.Fid.{Fid}
use Rattle.coda_fid.specs.declared.fid.Sid.{Sid}
use Rattle.coda_fid.specs.declared.op.Attrs.{Attrs}
use Rattle.coda_fid.specs.declared.op.Op.{Op}
use Rattle.coda_fid.specs.declared.op.Op.TheVariants.{Create, Mkdir, Symlink, Store, Setattr, Remove, Rmdir, Rename}
use Rattle.coda_fid.specs.declared.op.Record.{Record}
use Rattle.coda_fid.proofs.Fids.{fids_total, exact_fids}
use Rattle.coda_disk.specs.Told.{Told}
use Rattle.coda_journal.specs.Entries.{blocks}
use Rattle.coda_journal.specs.declared.header.Header.{Header}
use Rattle.coda_tree.specs.Bindings.{Name, Bindings}
use Rattle.coda_tree.specs.declared.node.Node.{Node}
use Rattle.coda_tree.specs.declared.node.NodeKind.{NodeKind}
use Rattle.coda_tree.specs.declared.node.NodeKind.TheVariants.{File, Link, Dir}
use Rattle.coda_tree.specs.Volume.{Nodes, bindings, bind_in, unbind_in, with_content, written, Patch, set_or, Edit, Put, Bind, TakeOut, Unbind, Write, edited, edited_all, changed, fresh, fresh_root}
use Rattle.coda_tree.proofs.Booleans.{from_T}
use Rattle.coda_tree.proofs.Changes.{at_changed, off_changed}
use Rattle.coda_tree.proofs.Order.{fid_cases, name_cases, get_here, get_else, gone_here, gone_else}
use Rattle.coda_tree.proofs.Pairs.{find_at}
use Rattle.coda_certify.specs.declared.reason.Reason.{Reason}
use Rattle.coda_certify.specs.Checks.{certify}
use Rattle.coda_certify.specs.Replay.{effects, sid_of, applied, Replayed, unless_refused, replay}
use Rattle.coda_certify.specs.Verdicts.{nodes_left}
use Rattle.coda_plain.proofs.Lists.{along}
use Rattle.coda_record.specs.Entries.{held_piece}
use Rattle.coda_record.specs.Form.{four, eight}
use Rattle.coda_record.specs.Parts.{u8, u64, where_holds}
use Rattle.coda_record.specs.Spelling.{HasSpelling}
use Rattle.coda_record.specs.Table as table
use Rattle.coda_record.specs.Entries as entries
use Rattle.coda_record.specs.declared.entry.ReplicaEntry.{ReplicaEntry}
use Rattle.coda_record.specs.declared.entry.ReplicaEntry.TheVariants.{Decide, Resolve, Repair, Snapshot}
use Rattle.coda_record.proofs.PartsAgree.{first_true, second_true}
use Rattle.coda_record.proofs.Spans.{number_span, together_span, records_span}
use Rattle.coda_replica.specs.History.{payload_of, payloads_of, state_after, state_of, MayFollow, IsHistory}
use Rattle.coda_replica.specs.State.{ReplicaState}
use Rattle.coda_replica.specs.Standing.{IsUp}
use Rattle.coda_replica.specs.declared.replica.Replica.{Replica}
use Rattle.coda_replica.proofs.Growing.{state_push, entry_parts, one_byte}
use Rattle.coda_replica.proofs.Reading.{blocks_push, blocks_append}
use Rattle.coda_spelling.specs.Spelled.{IsSpelled, AreAllSpelled}
use Rattle.coda_spelling.proofs.SpelledParts.{is_within, setattr_parts, rename_parts, store_parts}
use Rattle.coda_spelling.proofs.SpelledRecords.{records_are}
use Rattle.coda_serving.specs.Spelling.{can_be_spelled, IsPairSpelled, AreSpelledTo}
use Rattle.coda_serving.proofs.Spelled.{HasTypes, node_fits, content_fits, content_few, target_fits, target_few, bindings_fit}
use Rattle.coda_site.proofs.ClientSites.{reads_fit}

-- ---- what nodes have, within their ranges

-- names and objects can be spelled, and there are at most so many
pub record AreBound (count : ℕ) (bs : Bindings) : Type 0 where
  pub each : (name : Name) (fid : Fid) → map.get bs name ≡ Some fid → IsPairSpelled (name, fid)
  pub few : map.len bs ≤ count

abbrev IsKind : ℕ → NodeKind → Type 0
IsKind count (File content) = length content ≤ 1048576
IsKind count (Link target) = (1 ≤ length target) × (length target ≤ 1024)
IsKind count (Dir bs) = AreBound count bs

pub record IsNode (count : ℕ) (n : Node) : Type 0 where
  pub types : HasTypes n
  pub number : n.sid.number ≤ 4294967295
  pub kind : IsKind count n.kind

abbrev pub AreNodes : ℕ → Nodes → Type 0
AreNodes count m = (fid : Fid) (node : Node) → map.get m fid ≡ Some node → IsNode count node

bound_more : (count more : ℕ) (bs : Bindings) → count ≤ more → AreBound count bs → AreBound more bs
bound_more count more bs le are = record { each = are.each; few = omega (arith, le, are.few) }

kind_more : (count more : ℕ) (k : NodeKind) → count ≤ more → IsKind count k → IsKind more k
kind_more count more (File content) le is = is
kind_more count more (Link target) le is = is
kind_more count more (Dir bs) le is = bound_more count more bs le is

node_more : (count more : ℕ) (n : Node) → count ≤ more → IsNode count n → IsNode more n
node_more count more n le is = record { types = is.types; number = is.number; kind = kind_more count more n.kind le is.kind }

nodes_more : (count more : ℕ) (m : Nodes) → count ≤ more → AreNodes count m → AreNodes more m
nodes_more count more m le are fid node at = node_more count more node le (are fid node at)

-- nothing is bound
none_bound : (count : ℕ) → AreBound count map.empty
none_bound count = record {
  each = λ name fid e. (let no : None ≡ Some fid = sym (map.get-empty name_cmp name) ∙ e in cc);
  few = let none = map.len-empty name_cmp Fid in omega (arith, none);
}

bound_in : (count : ℕ) (k : NodeKind) → IsKind count k → AreBound count (bindings k)
bound_in count (File content) is = none_bound count
bound_in count (Link target) is = none_bound count
bound_in count (Dir bs) is = is

some_fid : (x y : Fid) → Some x ≡ Some y → x ≡ y
some_fid x y e = cc

one_more_at_most : (b : Bool) (n : ℕ) → cond b n (n + 1) ≤ n + 1
one_more_at_most true n = omega arith
one_more_at_most false n = omega arith

no_more_left : (b : Bool) (n : ℕ) → cond b (n - 1) n ≤ n
no_more_left true n = omega arith
no_more_left false n = omega arith

-- one name more
bound_put : (count : ℕ) (bs : Bindings) (name : Name) (fid : Fid) → AreBound count bs → IsPairSpelled (name, fid) → AreBound (count + 1) (map.insert bs name fid)
bound_put count bs name fid are is = record {
  each = λ other kid e. elim (name_cases other name) [
    | inl same ↦ (let k = some_fid fid kid (sym (get_here nat_list_cmp_total bs name fid) ∙ sym (ap (map.get (map.insert bs name fid)) same) ∙ e) in subst (λ n. IsPairSpelled (n, kid)) (sym same) (subst (λ f. IsPairSpelled (name, f)) k is))
    | inr off ↦ are.each other kid (sym (get_else nat_list_cmp_total exact_bytes bs name fid other off) ∙ e)
  ];
  few = let e = map.len-insert nat_list_cmp_total bs name fid in let most = one_more_at_most (map.contains_key bs name) (map.len bs) in let few = are.few in omega (arith, e, most, few);
}

-- one name less
bound_gone : (count : ℕ) (bs : Bindings) (name : Name) → AreBound count bs → AreBound count (map.remove bs name)
bound_gone count bs name are = record {
  each = λ other kid e. elim (name_cases other name) [
    | inl same ↦ (let no : None ≡ Some kid = sym (gone_here nat_list_cmp_total bs name) ∙ sym (ap (map.get (map.remove bs name)) same) ∙ e in cc)
    | inr off ↦ are.each other kid (sym (gone_else nat_list_cmp_total exact_bytes bs name other off) ∙ e)
  ];
  few = let e = map.len-remove nat_list_cmp_total bs name in let most = no_more_left (map.contains_key bs name) (map.len bs) in let few = are.few in omega (arith, e, most, few);
}

-- ---- edits

abbrev IsPatch : Patch → Type 0
IsPatch patch = IfSome patch.content (λ c. length c ≤ 1048576) × IfSome patch.mode (λ m. m < 65536) × IfSome patch.owner (λ o. o < 4294967296) × IfSome patch.mtime (λ t. t < 18446744073709551616)

abbrev IsVersion : Sid → Type 0
IsVersion sid = (sid.client < 256) × (sid.number ≤ 4294967295)

abbrev IsEdit : Edit → Type 0
IsEdit (Put f node) = IsNode 0 node
IsEdit (Bind d name f) = IsPairSpelled (name, f)
IsEdit (TakeOut f) = Unit {0}
IsEdit (Unbind d name) = Unit {0}
IsEdit (Write f patch sid) = IsPatch patch × IsVersion sid

abbrev binds : Edit → ℕ
binds (Put f node) = 0
binds (Bind d name f) = 1
binds (TakeOut f) = 0
binds (Unbind d name) = 0
binds (Write f patch sid) = 0

abbrev AreEdits : List Edit → Type 0
AreEdits [] = Unit {0}
AreEdits (edit ∷ edits) = IsEdit edit × AreEdits edits

abbrev binds_all : List Edit → ℕ
binds_all [] = 0
binds_all (edit ∷ edits) = binds edit + binds_all edits

some_node : (x y : Node) → Some x ≡ Some y → x ≡ y
some_node x y e = cc

nodes_put : (count : ℕ) (m : Nodes) (f : Fid) (node : Node) → AreNodes count m → IsNode count node → AreNodes count (map.insert m f node)
nodes_put count m f node are is fid other e = elim (fid_cases fid f) [
  | inl same ↦ subst (IsNode count) (some_node node other (sym (ap (map.get (map.insert m f node)) same ∙ get_here fids_total m f node) ∙ e)) is
  | inr off ↦ are fid other (sym (get_else fids_total exact_fids m f node fid off) ∙ e)
]

nodes_taken : (count : ℕ) (m : Nodes) (f : Fid) → AreNodes count m → AreNodes count (map.remove m f)
nodes_taken count m f are fid other e = elim (fid_cases fid f) [
  | inl same ↦ (let no : None ≡ Some other = sym (ap (map.get (map.remove m f)) same ∙ gone_here fids_total m f) ∙ e in cc)
  | inr off ↦ are fid other (sym (gone_else fids_total exact_fids m f fid off) ∙ e)
]

nodes_changed : (count more : ℕ) (m : Nodes) (d : Fid) (change : Node → Node) → count ≤ more → AreNodes count m → ((node : Node) → IsNode count node → IsNode more (change node)) → AreNodes more (changed m d change)
nodes_changed count more m d change le are keeps fid other e = elim (fid_cases fid d) [
  | inl same ↦ by (map.get m d) refl (sym (ap (map.get (changed m d change)) same ∙ at_changed m d change) ∙ e)
  | inr off ↦ node_more count more other le (are fid other (sym (off_changed m d change fid off) ∙ e))
]
  where
    by : (o : Option Node) → map.get m d ≡ o → option_map change o ≡ Some other → IsNode more other
    by None at h = (let no : None ≡ Some other = h in cc)
    by (Some node) at h = subst (IsNode more) (some_node (change node) other h) (keeps node (are d node at))

types_of : (node other : Node) → other.mode ≡ node.mode → other.owner ≡ node.owner → other.mtime ≡ node.mtime → other.sid ≡ node.sid → HasTypes node → HasTypes other
types_of node other mode owner mtime sid t = record {
  mode = subst (λ n. n < 65536) (sym mode) t.mode;
  owner = subst (λ n. n < 4294967296) (sym owner) t.owner;
  mtime = subst (λ n. n < 18446744073709551616) (sym mtime) t.mtime;
  client = subst (λ (s : Sid). s.client < 256) (sym sid) t.client;
}

set_small : (limit : ℕ) (new : Option ℕ) (old : ℕ) → IfSome new (λ n. n < limit) → old < limit → set_or new old < limit
set_small limit None old is was = was
set_small limit (Some n) old is was = is

content_kind : (count : ℕ) (content : Option (List ℕ)) (k : NodeKind) → IfSome content (λ c. length c ≤ 1048576) → IsKind count k → IsKind count (with_content content k)
content_kind count None k is was = was
content_kind count (Some new) (File content) is was = is
content_kind count (Some new) (Link target) is was = was
content_kind count (Some new) (Dir bs) is was = was

written_node : (count : ℕ) (patch : Patch) (sid : Sid) (node : Node) → IsPatch patch → IsVersion sid → IsNode count node → IsNode count (written patch sid node)
written_node count patch sid node is version was = record {
  types = record {
    mode = set_small 65536 patch.mode node.mode is.1 was.types.mode;
    owner = set_small 4294967296 patch.owner node.owner is.2 was.types.owner;
    mtime = set_small 18446744073709551616 patch.mtime node.mtime is.3 was.types.mtime;
    client = version.0;
  };
  number = version.1;
  kind = content_kind count patch.content node.kind is.0 was.kind;
}

nodes_edited : (count : ℕ) (m : Nodes) (edit : Edit) → AreNodes count m → IsEdit edit → AreNodes (count + binds edit) (edited m edit)
nodes_edited count m (Put f node) are is = nodes_more count (count + 0) (map.insert m f node) (omega arith) (nodes_put count m f node are (node_more 0 count node (omega arith) is))
nodes_edited count m (Bind d name f) are is = nodes_changed count (count + 1) m d (λ node. bind_in node name f) (omega arith) are
    (λ node was. record {
      types = types_of node (bind_in node name f) refl refl refl refl was.types;
      number = was.number;
      kind = bound_put count (bindings node.kind) name f (bound_in count node.kind was.kind) is;
    })
nodes_edited count m (TakeOut f) are is = nodes_more count (count + 0) (map.remove m f) (omega arith) (nodes_taken count m f are)
nodes_edited count m (Unbind d name) are is = nodes_changed count (count + 0) m d (λ node. unbind_in node name) (omega arith) are
    (λ node was. node_more count (count + 0) (unbind_in node name) (omega arith) (record {
      types = types_of node (unbind_in node name) refl refl refl refl was.types;
      number = was.number;
      kind = bound_gone count (bindings node.kind) name (bound_in count node.kind was.kind);
    }))
nodes_edited count m (Write f patch sid) are is = nodes_changed count (count + 0) m f (written patch sid) (omega arith) are (λ node was. node_more count (count + 0) (written patch sid node) (omega arith) (written_node count patch sid node is.0 is.1 was))

nodes_after : (count : ℕ) (m : Nodes) (edits : List Edit) → AreNodes count m → AreEdits edits → AreNodes (count + binds_all edits) (edited_all m edits)
nodes_after count m [] are is = nodes_more count (count + 0) m (omega arith) are
nodes_after count m (edit ∷ edits) are is =
    nodes_more ((count + binds edit) + binds_all edits) (count + (binds edit + binds_all edits)) (edited_all (edited m edit) edits) (omega arith)
    (nodes_after (count + binds edit) (edited m edit) edits (nodes_edited count m edit are is.0) is.1)

-- ---- operations

-- what an operation is made of
made_parts : (dir : Fid) (name : Name) (fid : Fid) (mode owner : ℕ) → HasSpelling (table.op four) (Create dir name fid mode owner) → IsPairSpelled (name, fid) × (mode < 65536) × (owner < 4294967296)
unfolding table.op
made_parts dir name fid mode owner is =
    let rest = second_true _ _ is in
    let more = second_true _ _ rest in
    let last = second_true _ _ more in
    ((first_true _ _ rest, first_true _ _ more), ltb-true mode 65536 (first_true _ _ last), ltb-true owner 4294967296 (first_true _ _ (second_true _ _ last)))

made_dir_parts : (dir : Fid) (name : Name) (fid : Fid) (mode owner : ℕ) → HasSpelling (table.op four) (Mkdir dir name fid mode owner) → IsPairSpelled (name, fid) × (mode < 65536) × (owner < 4294967296)
unfolding table.op
made_dir_parts dir name fid mode owner is =
    let rest = second_true _ _ is in
    let more = second_true _ _ rest in
    let last = second_true _ _ more in
    ((first_true _ _ rest, first_true _ _ more), ltb-true mode 65536 (first_true _ _ last), ltb-true owner 4294967296 (first_true _ _ (second_true _ _ last)))

link_parts : (dir : Fid) (name : Name) (fid : Fid) (target : List ℕ) (mode owner : ℕ) → HasSpelling (table.op four) (Symlink dir name fid target mode owner)
    → IsPairSpelled (name, fid) × HasSpelling (table.target four) target × (mode < 65536) × (owner < 4294967296)
unfolding table.op
link_parts dir name fid target mode owner is =
    let rest = second_true _ _ is in
    let more = second_true _ _ rest in
    let last = second_true _ _ more in
    let end = second_true _ _ last in
    ((first_true _ _ rest, first_true _ _ more), first_true _ _ last, ltb-true mode 65536 (first_true _ _ end), ltb-true owner 4294967296 (first_true _ _ (second_true _ _ end)))

-- one number, two or three of them within their ranges
one_small : (n limit : ℕ) → (nat_lt n limit && true) ≡ true → n < limit
one_small n limit is = ltb-true n limit (first_true (nat_lt n limit) true is)

more_small : (n limit : ℕ) (rest : Bool) → (nat_lt n limit && rest) ≡ true → (n < limit) × (rest ≡ true)
more_small n limit rest is = (ltb-true n limit (first_true (nat_lt n limit) rest is), second_true (nat_lt n limit) rest is)

abbrev AreSmall : Option ℕ → Option ℕ → Option ℕ → Type 0
AreSmall mode owner mtime = IfSome mode (λ m. m < 65536) × IfSome owner (λ o. o < 4294967296) × IfSome mtime (λ t. t < 18446744073709551616)

attrs_by : (m o t : Option ℕ) → (table.attrs_piece m o t).fits ≡ true → AreSmall m o t
attrs_by None None None s = (tt, tt, tt)
attrs_by (Some m) None None s = (one_small m 65536 s, tt, tt)
attrs_by None (Some o) None s = (tt, one_small o 4294967296 s, tt)
attrs_by None None (Some t) s = (tt, tt, one_small t 18446744073709551616 s)
attrs_by (Some m) (Some o) None s = (let a = more_small m 65536 (nat_lt o 4294967296 && true) s in (a.0, one_small o 4294967296 a.1, tt))
attrs_by (Some m) None (Some t) s = (let a = more_small m 65536 (nat_lt t 18446744073709551616 && true) s in (a.0, tt, one_small t 18446744073709551616 a.1))
attrs_by None (Some o) (Some t) s = (let a = more_small o 4294967296 (nat_lt t 18446744073709551616 && true) s in (tt, a.0, one_small t 18446744073709551616 a.1))
attrs_by (Some m) (Some o) (Some t) s = (
    let a = more_small m 65536 (nat_lt o 4294967296 && (nat_lt t 18446744073709551616 && true)) s in
    let b = more_small o 4294967296 (nat_lt t 18446744073709551616 && true) a.1 in
    (a.0, b.0, one_small t 18446744073709551616 b.1))

attrs_small : (a : Attrs) → HasSpelling table.attrs a → AreSmall a.mode a.owner a.mtime
unfolding table.attrs
attrs_small a is = attrs_by a.mode a.owner a.mtime is

-- the edits of an operation of a time, by a version
op_edits : (time : ℕ) (sid : Sid) (op : Op) → time < 18446744073709551616 → IsVersion sid → HasSpelling (table.op four) op → AreEdits (effects time sid op)
op_edits time sid (Create dir name fid mode owner) now version is =
    let p = made_parts dir name fid mode owner is in
    (p.0, (record { types = record { mode = p.1; owner = p.2; mtime = now; client = version.0 }; number = version.1; kind = omega arith }, tt))
op_edits time sid (Mkdir dir name fid mode owner) now version is =
    let p = made_dir_parts dir name fid mode owner is in
    (p.0, (record { types = record { mode = p.1; owner = p.2; mtime = now; client = version.0 }; number = version.1; kind = none_bound 0 }, tt))
op_edits time sid (Symlink dir name fid target mode owner) now version is =
    let p = link_parts dir name fid target mode owner is in
    (p.0, (record { types = record { mode = p.2; owner = p.3; mtime = now; client = version.0 }; number = version.1; kind = target_few target p.1 }, tt))
op_edits time sid (Store fid pre content) now version is = (((content_few content (store_parts fid pre content is).2, tt, tt, now), version), tt)
op_edits time sid (Setattr fid pre attrs) now version is = let a = attrs_small attrs (setattr_parts fid pre attrs is).2 in (((tt, a.0, a.1, a.2), version), tt)
op_edits time sid (Remove dir name fid pre) now version is = (tt, (tt, tt))
op_edits time sid (Rmdir dir name fid pre) now version is = (tt, (tt, tt))
op_edits time sid (Rename from_dir from to_dir to fid None) now version is = let p = rename_parts from_dir from to_dir to fid None is in (tt, ((p.3, p.4), tt))
op_edits time sid (Rename from_dir from to_dir to fid (Some over)) now version is = let p = rename_parts from_dir from to_dir to fid (Some over) is in (tt, (tt, ((p.3, p.4), tt)))

-- it binds one name at most
op_binds : (time : ℕ) (sid : Sid) (op : Op) → binds_all (effects time sid op) ≤ 1
op_binds time sid (Create dir name fid mode owner) = omega arith
op_binds time sid (Mkdir dir name fid mode owner) = omega arith
op_binds time sid (Symlink dir name fid target mode owner) = omega arith
op_binds time sid (Store fid pre content) = omega arith
op_binds time sid (Setattr fid pre attrs) = omega arith
op_binds time sid (Remove dir name fid pre) = omega arith
op_binds time sid (Rmdir dir name fid pre) = omega arith
op_binds time sid (Rename from_dir from to_dir to fid None) = omega arith
op_binds time sid (Rename from_dir from to_dir to fid (Some over)) = omega arith

nodes_applied : (count : ℕ) (m : Nodes) (client : ℕ) (rec : Record) → AreNodes count m → HasSpelling u8 client → IsSpelled rec → AreNodes (count + 1) (applied m client rec)
unfolding applied
nodes_applied count m client rec are number is =
    let sid = sid_of client rec in
    let version : IsVersion sid = (ltb-true client 256 number, (is_within 1 4294967295 eight rec.number is.number).1) in
    let few = op_binds rec.time sid rec.op in
    nodes_more (count + binds_all (effects rec.time sid rec.op)) (count + 1) (edited_all m (effects rec.time sid rec.op)) (omega (arith, few))
    (nodes_after count m (effects rec.time sid rec.op) are (op_edits rec.time sid rec.op (ltb-true rec.time 18446744073709551616 is.time) version is.op))

-- ---- replays

ok_nodes : (x y : Nodes) → (let ok : Nodes → Replayed = λ z. Ok z in ok x ≡ ok y) → x ≡ y
ok_nodes x y h = cc

goes_on : (count : ℕ) (o : Option Reason) (number : ℕ) (rest : Replayed) (nodes : Nodes) → (rest ≡ Ok nodes → AreNodes count nodes) → unless_refused o number rest ≡ Ok nodes → AreNodes count nodes
goes_on count None number rest nodes then_ h = then_ h
goes_on count (Some why) number rest nodes then_ h = cc

nodes_replayed : (count : ℕ) (m : Nodes) (client : ℕ) (recs : List Record) (nodes : Nodes) → AreNodes count m → HasSpelling u8 client → AreAllSpelled recs → replay m client recs ≡ Ok nodes → AreNodes (count + length recs) nodes
nodes_replayed count m client [] nodes are number is e = subst (AreNodes (count + 0)) (ok_nodes m nodes e) (nodes_more count (count + 0) m (omega arith) are)
nodes_replayed count m client (rec ∷ recs) nodes are number is e =
    nodes_more ((count + 1) + length recs) (count + length (rec ∷ recs)) nodes (omega arith)
    (goes_on ((count + 1) + length recs) (certify m rec.op) rec.number (replay (applied m client rec) client recs) nodes
    (nodes_replayed (count + 1) (applied m client rec) client recs nodes (nodes_applied count m client rec are number is.0) number is.1) e)

nodes_ruled : (count : ℕ) (m : Nodes) (client : ℕ) (recs : List Record) → AreNodes count m → HasSpelling u8 client → AreAllSpelled recs → AreNodes (count + length recs) (nodes_left m (replay m client recs))
nodes_ruled count m client recs are number is = by (replay m client recs) refl
  where
    by : (r : Replayed) → replay m client recs ≡ r → AreNodes (count + length recs) (nodes_left m r)
    by (Err why) e = nodes_more count (count + length recs) m (omega arith) are
    by (Ok nodes) e = nodes_replayed count m client recs nodes are number is e

-- ---- histories

-- how many records a replica decided
abbrev decided_in : ReplicaEntry → ℕ
decided_in (Decide client number recs verdict) = length recs
decided_in (Resolve change lasts) = 0
decided_in (Repair change lasts) = 0
decided_in (Snapshot number held lasts) = 0

abbrev total : List ReplicaEntry → ℕ
total [] = 0
total (entry ∷ history) = decided_in entry + total history

total_push : (history : List ReplicaEntry) (entry : ReplicaEntry) → total (history ++ entry ∷ []) ≡ total history + decided_in entry
total_push [] entry = omega arith
total_push (e ∷ history) entry = let rest = total_push history entry in omega (arith, rest)

fresh_nodes : (number : ℕ) → AreNodes 0 (fresh number).nodes
fresh_nodes number = nodes_put 0 map.empty (root_of number) fresh_root (λ fid node e. (let no : None ≡ Some node = sym (map.get-empty _ fid) ∙ e in cc))
    (record { types = record { mode = omega arith; owner = omega arith; mtime = omega arith; client = omega arith }; number = omega arith; kind = none_bound 0 })

nodes_decided : (count : ℕ) (r : ReplicaState) (entry : ReplicaEntry) → AreNodes count r.tree.nodes → HasSpelling (entries.replica_entry four) entry → AreNodes (count + decided_in entry) (state_after r entry).tree.nodes
nodes_decided count r (Decide client number recs verdict) are is =
    let parts = entry_parts client number recs verdict is in
    nodes_ruled count r.tree.nodes client recs are (one_byte client parts.0) (records_are recs parts.1)
nodes_decided count r (Resolve change lasts) are is = nodes_more count (count + 0) r.tree.nodes (omega arith) are
nodes_decided count r (Repair change lasts) are is = nodes_more count (count + 0) r.tree.nodes (omega arith) are
nodes_decided count r (Snapshot number held lasts) are is = nodes_more count (count + 0) r.tree.nodes (omega arith) are

nodes_kept : (header : Header) (history : List ReplicaEntry) → IsHistory header history → AreNodes (total history) (state_of header history).tree.nodes
nodes_kept header history law =
    along (MayFollow header) (λ (h : List ReplicaEntry). AreNodes (total h) (state_of header h).tree.nodes) step history (fresh_nodes header.number) law
  where
    step : (es : List ReplicaEntry) (entry : ReplicaEntry) → AreNodes (total es) (state_of header es).tree.nodes → MayFollow header es entry → AreNodes (total (es ++ entry ∷ [])) (state_of header (es ++ entry ∷ [])).tree.nodes
    step es entry are may =
        subst (λ (n : ℕ). AreNodes n (state_of header (es ++ entry ∷ [])).tree.nodes) (sym (total_push es entry))
        (subst (λ (r : ReplicaState). AreNodes (total es + decided_in entry) r.tree.nodes) (sym (state_push header es entry)) (nodes_decided (total es) (state_of header es) entry are may.1))

-- ---- how many records a journal keeps

record_bytes : (rec : Record) → 1 ≤ length ((table.record_above four 0).piece rec).bytes
unfolding table.record_above
record_bytes rec =
    let all = together_span ((where_holds (table.may_follow 0) u64).piece rec.number ∷ u64.piece rec.time ∷ (table.op four).piece rec.op ∷ []) in
    let first = number_span eight rec.number in
    omega (arith, all, first)

records_bytes : (recs : List Record) → length recs ≤ length (flat_map (λ (r : Record). ((table.record_above four 0).piece r).bytes) recs)
records_bytes [] = omega arith
records_bytes (rec ∷ recs) =
    let here = record_bytes rec in
    let rest = records_bytes recs in
    let all = length-append ((table.record_above four 0).piece rec).bytes (flat_map (λ (r : Record). ((table.record_above four 0).piece r).bytes) recs) in
    omega (arith, here, rest, all)

entry_bytes : (entry : ReplicaEntry) → decided_in entry ≤ length (payload_of entry)
unfolding entries.replica_entry
entry_bytes (Decide client number recs verdict) =
    let all = together_span (u8.piece 1 ∷ table.client.piece client ∷ table.ordinal.piece number ∷ (table.records four).piece recs ∷ table.verdict.piece verdict ∷ []) in
    let mine = records_span recs in
    let least = records_bytes recs in
    omega (arith, all, mine, least)
entry_bytes (Resolve change lasts) = omega arith
entry_bytes (Repair change lasts) = omega arith
entry_bytes (Snapshot number held lasts) = omega arith

journal_bytes : (history : List ReplicaEntry) → total history ≤ length (blocks w32 (payloads_of history))
journal_bytes [] = omega arith
journal_bytes (entry ∷ history) =
    let here = entry_bytes entry in
    let rest = journal_bytes history in
    let one = blocks_push [] (payload_of entry) in
    let all = blocks_append (payload_of entry ∷ []) (payloads_of history) in
    omega (arith, here, rest, one, all)

-- ---- what is offered

-- what a directory binds can be spelled
listed : (count : ℕ) (bs : Bindings) → AreBound count bs → AreSpelledTo (map.len bs) (map.entries bs)
listed count bs are index pair low at =
    let size : length (map.entries bs) ≡ map.len bs = sym (map.len-entries bs) in
    let here : (d : Name × Fid) → get_or (map.entries bs) index d ≡ pair = λ d. get_or_from_slice_get (map.entries bs) index pair d at in
    let found = find_at (map.entries bs) pair.0 index pair (from_T _ (map.entries_sorted bs)) (record { in_range = omega (arith, low, size); has_name = λ d. ap (λ (p : Name × Fid). name_cmp p.0 pair.0) (here d) ∙ tied_itself nat_list_cmp_total pair.0 }) in
    are.each pair.0 pair.1 (map.get-entries bs pair.0 ∙ found ∙ ap (λ (p : Name × Fid). Some p.1) (here pair))

kind_spelled : (count : ℕ) (k : NodeKind) → count ≤ 4294967295 → IsKind count k → (held_piece four k).fits ≡ true
kind_spelled count (File content) few is = content_fits content is
kind_spelled count (Link target) few is = target_fits target is.0 is.1
kind_spelled count (Dir bs) few is = let small = is.few in bindings_fit bs (listed count bs is) (omega (arith, small, few))

node_spelled : (count : ℕ) (n : Node) → count ≤ 4294967295 → IsNode count n → can_be_spelled n ≡ true
node_spelled count n few is = node_fits n is.types is.number (kind_spelled count n.kind few is.kind)

-- each object of a replica that is up
pub replica_spelled : {D : Type 0} (told : D → Told) (header : Header) (replica : Replica D) (history : List ReplicaEntry) → IsUp told header replica history → (fid : Fid) (node : Node) → map.get replica.decider.tree.nodes fid ≡ Some node → can_be_spelled node ≡ true
replica_spelled told header replica history up fid node at =
    let fit = reads_fit header (told replica.journal.disk).seen (payloads_of history) up.journal.reads in
    let small = up.journal.whole.greatest in
    let many = journal_bytes history in
    node_spelled (total history) node (omega (arith, fit, small, many)) (nodes_kept header history up.lawful fid node (ap (λ (r : ReplicaState). map.get r.tree.nodes fid) (sym up.state) ∙ at))
