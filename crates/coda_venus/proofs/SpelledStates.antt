-- What a client holds can be spelled, whatever its history.
use Rattle.std.proofs.Common.{◌≡◌, ℕ, ◌<◌, true, false, cond, List, [], ◌∷◌, Option, Some, None, sym, ap, ◌∙◌, subst, inl, inr}
use Rattle.std.specs.Ordering.{eq_by_cmp}
use Rattle.std.specs.FinMap as map
use Rattle.std.specs.FinMap.Entries.{find}
use Rattle.coda_fid.specs.Name.{name_cmp}
use Rattle.coda_fid.proofs.Fids.{fids_total, exact_fids}
use Rattle.coda_fid.specs.declared.fid.Fid.{Fid}
use Rattle.coda_tree.specs.declared.node.Node.{Node}
use Rattle.coda_tree.specs.declared.node.NodeKind.{NodeKind}
use Rattle.coda_tree.specs.declared.node.NodeKind.TheVariants.{File, Link, Dir}
use Rattle.coda_tree.specs.Bindings.{Name}
use Rattle.coda_tree.specs.Volume.{Nodes, child_of, bindings}
use Rattle.coda_tree.proofs.Order.{fid_cases, get_here, get_else, gone_here, gone_else}
use Rattle.coda_journal.specs.declared.header.Header.{Header}
use Rattle.coda_plain.specs.Histories.{DoFollow, left_by}
use Rattle.coda_record.specs.Entries as entries
use Rattle.coda_record.specs.Form.{four, one}
use Rattle.coda_record.specs.Parts.{u8, u16, u32, u64, flag, optional, items_piece}
use Rattle.coda_record.specs.Spelling.{HasSpelling}
use Rattle.coda_record.specs.Table as table
use Rattle.coda_record.specs.declared.entry.ClientEntry.{ClientEntry}
use Rattle.coda_record.specs.declared.entry.ClientEntry.TheVariants.{Op, Freeze, Settled, Giveup, Fetched, Dropped, Hoard, Snapshot}
use Rattle.coda_record.proofs.PartsAgree.{first_true, second_true}
use Rattle.coda_spelling.specs.Spelled.{AreSpelled}
use Rattle.coda_spelling.proofs.SpelledParts.{below}
use Rattle.coda_spelling.proofs.SpelledRecords.{single_spelled}
use Rattle.coda_venus.specs.State.{ClientState, new_client, client_after, client_after_all}
use Rattle.coda_venus.specs.History.{Payload, MayFollow, IsHistory}
use Rattle.coda_venus.proofs.Entered.{nothing_spelled}
use Rattle.coda_venus.proofs.SpelledHeld.{operation_spelled}

-- ---- a node that can be spelled

pairs_bind : (before : Option (List ℕ)) (es : List (List ℕ × Fid)) (name : Name) (kid : Fid) → (items_piece entries.binding_after (λ (b : List ℕ × Fid). Some b.0) before es).fits ≡ true → find name_cmp name es ≡ Some kid → HasSpelling table.fid kid
unfolding entries.binding_after
pairs_bind before [] name kid fits is = cc
pairs_bind before (e ∷ es) name kid fits is =
    elim (eq_by_cmp name_cmp name e.0) as (λ b. cond b (Some e.1) (find name_cmp name es) ≡ Some kid → HasSpelling table.fid kid) [
      | true ↦ λ h. subst (HasSpelling table.fid) (some_fid e.1 kid h) (first_true _ _ (second_true _ _ (first_true _ _ fits)))
      | false ↦ λ h. pairs_bind (Some e.0) es name kid (second_true _ _ fits) h
    ] is
  where
    some_fid : (x y : Fid) → Some x ≡ Some y → x ≡ y
    some_fid x y h = cc

binds_spelled : (kind : NodeKind) (name : Name) (kid : Fid) → (entries.held_piece four kind).fits ≡ true → map.get (bindings kind) name ≡ Some kid → HasSpelling table.fid kid
unfolding entries.bindings entries.pairs
binds_spelled (File content) name kid fits is = (let no : None ≡ Some kid = sym (map.get-empty name_cmp name) ∙ is in cc)
binds_spelled (Link target) name kid fits is = (let no : None ≡ Some kid = sym (map.get-empty name_cmp name) ∙ is in cc)
binds_spelled (Dir bs) name kid fits is = pairs_bind None (map.entries bs) name kid (second_true _ _ fits) (sym (map.get-entries bs name) ∙ is)

-- the version of a node, and what it binds
pub record IsNodeSpelled (node : Node) : Type 0 where
  pub version : HasSpelling table.sid node.sid
  pub bound : (name : Name) (kid : Fid) → map.get (bindings node.kind) name ≡ Some kid → HasSpelling table.fid kid

pub node_spelled : (node : Node) → HasSpelling (entries.node four) node → IsNodeSpelled node
unfolding entries.node
node_spelled node fits =
    let kind = second_true (u8.piece (entries.kind_of node.kind)).fits _ fits in
    let marked = second_true (flag.piece node.marked).fits _ kind in
    let mode = second_true (u16.piece node.mode).fits _ marked in
    let owner = second_true (u32.piece node.owner).fits _ mode in
    let mtime = second_true (u64.piece node.mtime).fits _ owner in
    let sid = second_true (table.sid.piece node.sid).fits _ mtime in
    record { version = first_true (table.sid.piece node.sid).fits _ mtime; bound = λ name kid is. binds_spelled node.kind name kid (first_true (entries.held_piece four node.kind).fits _ sid) is }

-- ---- what entries leave

some_node : (x y : Node) → Some x ≡ Some y → x ≡ y
some_node x y h = cc

pub after_put : (m : Nodes) (fid : Fid) (node : Node) → AreSpelled m → IsNodeSpelled node → AreSpelled (map.insert m fid node)
after_put m fid node are is = record {
  versions = λ f other e. elim (fid_cases f fid) [
    | inl same ↦ subst (λ (n : Node). HasSpelling table.sid n.sid) (some_node node other (sym (ap (map.get (map.insert m fid node)) same ∙ get_here fids_total m fid node) ∙ e)) is.version
    | inr off ↦ are.versions f other (sym (get_else fids_total exact_fids m fid node f off) ∙ e)
  ];
  bound = λ dir kid name e. elim (fid_cases dir fid) [
    | inl same ↦ is.bound name kid (sym (ap (λ o. child_of o name) (ap (map.get (map.insert m fid node)) same ∙ get_here fids_total m fid node)) ∙ e)
    | inr off ↦ are.bound dir kid name (sym (ap (λ o. child_of o name) (get_else fids_total exact_fids m fid node dir off)) ∙ e)
  ];
}

pub after_taken : (m : Nodes) (fid : Fid) → AreSpelled m → AreSpelled (map.remove m fid)
after_taken m fid are = record {
  versions = λ f other e. elim (fid_cases f fid) [
    | inl same ↦ (let no : None ≡ Some other = sym (ap (map.get (map.remove m fid)) same ∙ gone_here fids_total m fid) ∙ e in cc)
    | inr off ↦ are.versions f other (sym (gone_else fids_total exact_fids m fid f off) ∙ e)
  ];
  bound = λ dir kid name e. elim (fid_cases dir fid) [
    | inl same ↦ (let no : None ≡ Some kid = sym (ap (λ o. child_of o name) (ap (map.get (map.remove m fid)) same ∙ gone_here fids_total m fid)) ∙ e in cc)
    | inr off ↦ are.bound dir kid name (sym (ap (λ o. child_of o name) (gone_else fids_total exact_fids m fid dir off)) ∙ e)
  ];
}

-- the client has a number that can be spelled, and so can what it holds
record IsStateSpelled (c : ClientState) : Type 0 where
  number : HasSpelling u8 c.number
  nodes : AreSpelled c.held.nodes

entry_spelled : (c : ClientState) (entry : ClientEntry) → IsStateSpelled c → HasSpelling (entries.client_entry four) entry → IsStateSpelled (client_after c entry)
unfolding entries.client_entry
entry_spelled c (Op volume rec) is fits = record { number = is.number; nodes = operation_spelled c.held c.number rec is.nodes is.number (single_spelled 0 rec (first_true ((table.record_above four 0).piece rec).fits _ (second_true (table.volume.piece volume).fits _ (second_true (u8.piece 1).fits _ fits)))) }
entry_spelled c (Freeze volume number home last) is fits = record { number = is.number; nodes = is.nodes }
entry_spelled c (Settled volume number verdict) is fits = record { number = is.number; nodes = is.nodes }
entry_spelled c (Giveup volume) is fits = record { number = is.number; nodes = is.nodes }
entry_spelled c (Fetched fid parent node) is fits = record { number = is.number; nodes = after_put c.held.nodes fid node is.nodes (node_spelled node (first_true ((entries.node four).piece node).fits _ (second_true ((optional table.fid).piece parent).fits _ (second_true (table.fid.piece fid).fits _ (second_true (u8.piece 5).fits _ fits))))) }
entry_spelled c (Dropped fid) is fits = record { number = is.number; nodes = after_taken c.held.nodes fid is.nodes }
entry_spelled c (Hoard change) is fits = is
entry_spelled c (Snapshot snapshot) is fits = is

items_spelled : (c : ClientState) (payload : Payload) → IsStateSpelled c → (items_piece (λ (before : Unit {0}). entries.client_entry four) (λ (e : ClientEntry). tt) tt payload).fits ≡ true → IsStateSpelled (client_after_all c payload)
items_spelled c [] is fits = is
items_spelled c (entry ∷ payload) is fits = items_spelled (client_after c entry) payload (entry_spelled c entry is (first_true _ _ fits)) (second_true _ _ fits)

payload_spelled : (c : ClientState) (payload : Payload) → IsStateSpelled c → HasSpelling (entries.client_payload four) payload → IsStateSpelled (client_after_all c payload)
unfolding entries.client_payload
payload_spelled c payload is fits = items_spelled c payload is (second_true _ _ fits)

left_spelled : (header : Header) (c : ClientState) (past history : List Payload) → IsStateSpelled c → DoFollow (MayFollow header) past history → IsStateSpelled (left_by client_after_all c history)
left_spelled header c past [] is follow = is
left_spelled header c past (payload ∷ history) is follow = left_spelled header (client_after_all c payload) _ history (payload_spelled c payload is follow.0.1) follow.1

pub state_spelled : (header : Header) (history : List Payload) → header.number < 256 → IsHistory header history → AreSpelled (left_by client_after_all (new_client header.number header.cache) history).held.nodes
state_spelled header history numbered lawful =
    let new : IsStateSpelled (new_client header.number header.cache) = record { number = below one header.number numbered; nodes = nothing_spelled } in
    (left_spelled header (new_client header.number header.cache) [] history new lawful).nodes
