-- An object that a client doesn't hold has no parent, whatever its history.
use Rattle.std.proofs.Common.{◌≡◌, ◌≢◌, ℕ, zero, suc, Bool, true, false, cond, not, ◌||◌, List, [], ◌∷◌, ◌++◌, Option, Some, None, is_some, refl, sym, ap, ◌∙◌, subst, inl, inr}
use Rattle.std.proofs.lemmas.Option.{none-some}
use Rattle.std.proofs.lemmas.Bool.{false≢true}
use Rattle.std.specs.FinMap as map
use Rattle.std.specs.FinMap.{FinMap}
use Rattle.std.specs.Option.{option_map_or}
use Rattle.coda_fid.specs.Fid.{fid_cmp}
use Rattle.coda_fid.specs.declared.fid.Fid.{Fid}
use Rattle.coda_fid.specs.declared.op.Op.{Op}
use Rattle.coda_fid.specs.declared.op.Op.TheVariants.{Create, Mkdir, Symlink, Store, Setattr, Remove, Rmdir, Rename}
use Rattle.coda_fid.specs.declared.op.Record.{Record}
use Rattle.coda_fid.proofs.Fids.{fids_total, exact_fids}
use Rattle.coda_tree.proofs.Changes.{has_changed}
use Rattle.coda_tree.proofs.Order.{fid_cases, get_here, get_else, gone_here, gone_else}
use Rattle.coda_tree.specs.Volume.{Nodes, has, changed, bind_in, unbind_in}
use Rattle.coda_cancel.proofs.Keys.{fid_same}
use Rattle.coda_tree.specs.declared.node.Node.{Node}
use Rattle.coda_certify.specs.Replay.{applied}
use Rattle.coda_journal.specs.declared.header.Header.{Header}
use Rattle.coda_plain.proofs.Lists.{left_push, along}
use Rattle.coda_record.specs.declared.entry.ClientEntry.{ClientEntry}
use Rattle.coda_record.specs.declared.entry.ClientEntry.TheVariants as entry
use Rattle.coda_venus.specs.Accepting.{sight_of}
use Rattle.coda_venus.specs.Held.{Parents, Held, is_below, stays, held_after_operation, held_after_fetch}
use Rattle.coda_cache.specs.Parents.{below_within}
use Rattle.coda_venus.specs.History.{Payload, state_of, MayEnter, MayEnterAll, MayFollow, IsHistory}
use Rattle.coda_venus.specs.State.{ClientState, new_client, client_after, client_after_all}
use Rattle.coda_venus.proofs.Accepted.{Relies, accepted_relies}

-- an object that isn't held has no parent
abbrev pub HasNoOrphans : Held → Type 0
HasNoOrphans h = (f : Fid) → map.get h.nodes f ≡ None → map.get h.parents f ≡ None

-- ---- one edit

-- what isn't held once nodes changed wasn't before
absent_changed : (m : Nodes) (d : Fid) (change : Node → Node) (f : Fid) → map.get (changed m d change) f ≡ None → map.get m f ≡ None
absent_changed m d change f none = by (map.get m f) refl
  where
    by : (o : Option Node) → map.get m f ≡ o → o ≡ None
    by None e = refl
    by (Some node) e = absurd (false≢true (sym (ap is_some none) ∙ has_changed m d change f ∙ ap is_some e))

-- an object is below itself
below_itself : (parents : Parents) (f : Fid) → is_below parents f f ≡ true
unfolding is_below
below_itself parents f = by (map.len parents)
  where
    by : (steps : ℕ) → below_within parents steps f f ≡ true
    by zero = fid_same f f refl
    by (suc steps) = ap (λ b. b || option_map_or (λ p. below_within parents steps p f) (map.get parents f) false) (fid_same f f refl)

abbrev NoOrphans : Nodes → Parents → Type 0
NoOrphans m p = (f : Fid) → map.get m f ≡ None → map.get p f ≡ None

changed_fits : (m : Nodes) (p : Parents) (d : Fid) (change : Node → Node) → NoOrphans m p → NoOrphans (changed m d change) p
changed_fits m p d change are f none = are f (absent_changed m d change f none)

-- an object is put
put_fits : (m : Nodes) (p : Parents) (fid : Fid) (node : Node) → NoOrphans m p → NoOrphans (map.insert m fid node) p
put_fits m p fid node are f none = elim (fid_cases f fid) [
  | inl same ↦ absurd (none-some node (sym none ∙ ap (map.get (map.insert m fid node)) same ∙ get_here fids_total m fid node))
  | inr off ↦ are f (sym (get_else fids_total exact_fids m fid node f off) ∙ none)
]

-- an object that is held has another parent
parent_fits : (m : Nodes) (p : Parents) (fid dir : Fid) → has m fid ≡ true → NoOrphans m p → NoOrphans m (map.insert p fid dir)
parent_fits m p fid dir there are f none = elim (fid_cases f fid) [
  | inl same ↦ absurd (false≢true (sym (ap is_some none) ∙ ap (has m) same ∙ there))
  | inr off ↦ get_else fids_total exact_fids p fid dir f off ∙ are f none
]

-- an object is taken out, with its parent
taken_fits : (m : Nodes) (p : Parents) (fid : Fid) → NoOrphans m p → NoOrphans (map.remove m fid) (map.remove p fid)
taken_fits m p fid are f none = elim (fid_cases f fid) [
  | inl same ↦ ap (map.get (map.remove p fid)) same ∙ gone_here fids_total p fid
  | inr off ↦ gone_else fids_total exact_fids p fid f off ∙ are f (sym (gone_else fids_total exact_fids m fid f off) ∙ none)
]

-- an object goes with all below it
gone_fits : (m : Nodes) (p by : Parents) (gone : Fid) → ((f : Fid) → f ≢ gone → map.get m f ≡ None → map.get p f ≡ None) → NoOrphans (map.retain_keys m (stays by gone)) (map.retain_keys p (stays by gone))
gone_fits m p by gone are f none = at_stays (stays by gone f) refl
  where
    retained : {X : Type 0} (x : FinMap fid_cmp X) → map.get (map.retain_keys x (stays by gone)) f ≡ cond (stays by gone f) (map.get x f) None
    retained x = map.get-retain_keys x (stays by gone) f (λ q e. ap (stays by gone) (sym (exact_fids f q e)))

    at_stays : (b : Bool) → stays by gone f ≡ b → map.get (map.retain_keys p (stays by gone)) f ≡ None
    at_stays false e = retained p ∙ ap (λ b. cond b (map.get p f) None) e
    at_stays true e =
        retained p ∙ ap (λ b. cond b (map.get p f) None) e
        ∙ are f (λ same. false≢true (sym (ap not (below_itself by gone)) ∙ ap (stays by gone) (sym same) ∙ e)) (sym (ap (λ b. cond b (map.get m f) None) e) ∙ sym (retained m) ∙ none)

made_fits : (m : Nodes) (p : Parents) (dir fid : Fid) (change : Node → Node) (node : Node) → NoOrphans m p → NoOrphans (map.insert (changed m dir change) fid node) (map.insert p fid dir)
made_fits m p dir fid change node are =
    parent_fits (map.insert (changed m dir change) fid node) p fid dir (ap is_some (get_here fids_total (changed m dir change) fid node))
    (put_fits (changed m dir change) p fid node (changed_fits m p dir change are))

left_fits : (m : Nodes) (p : Parents) (dir fid : Fid) (change : Node → Node) → NoOrphans m p → NoOrphans (map.retain_keys (map.remove (changed m dir change) fid) (stays p fid)) (map.retain_keys p (stays p fid))
left_fits m p dir fid change are = gone_fits (map.remove (changed m dir change) fid) p p fid (λ f other none. changed_fits m p dir change are f (sym (gone_else fids_total exact_fids (changed m dir change) fid f other) ∙ none))

moved_fits : (m : Nodes) (p : Parents) (from_dir to_dir fid : Fid) (first second : Node → Node) → has m fid ≡ true → NoOrphans m p → NoOrphans (changed (changed m from_dir first) to_dir second) (map.insert p fid to_dir)
moved_fits m p from_dir to_dir fid first second there are =
    parent_fits (changed (changed m from_dir first) to_dir second) p fid to_dir (has_changed (changed m from_dir first) to_dir second fid ∙ has_changed m from_dir first fid ∙ there)
    (changed_fits (changed m from_dir first) p to_dir second (changed_fits m p from_dir first are))

-- ---- an operation that was accepted, and each other entry

operation_fits : (c : ClientState) (volume : ℕ) (rec : Record) (o : Op) → Relies (sight_of c volume) volume o → HasNoOrphans c.held → HasNoOrphans (held_after_operation c.held c.number (record rec { op = o }))
unfolding applied
operation_fits c volume rec (Create dir name fid mode owner) r are = made_fits c.held.nodes c.held.parents dir fid _ _ are
operation_fits c volume rec (Mkdir dir name fid mode owner) r are = made_fits c.held.nodes c.held.parents dir fid _ _ are
operation_fits c volume rec (Symlink dir name fid target mode owner) r are = made_fits c.held.nodes c.held.parents dir fid _ _ are
operation_fits c volume rec (Store fid pre content) r are = changed_fits c.held.nodes c.held.parents fid _ are
operation_fits c volume rec (Setattr fid pre attrs) r are = changed_fits c.held.nodes c.held.parents fid _ are
operation_fits c volume rec (Remove dir name fid pre) r are = left_fits c.held.nodes c.held.parents dir fid _ are
operation_fits c volume rec (Rmdir dir name fid pre) r are = left_fits c.held.nodes c.held.parents dir fid _ are
operation_fits c volume rec (Rename from_dir from to_dir to fid None) r are = moved_fits c.held.nodes c.held.parents from_dir to_dir fid _ _ r.there are
operation_fits c volume rec (Rename from_dir from to_dir to fid (Some over)) r are =
    gone_fits _ (map.insert c.held.parents fid to_dir) c.held.parents over.fid (λ f other none. moved_over f other none)
  where
    less : Nodes
    less = map.remove c.held.nodes over.fid

    moved_over : (f : Fid) → f ≢ over.fid → map.get (changed (changed less from_dir (λ n. unbind_in n from)) to_dir (λ n. bind_in n to fid)) f ≡ None → map.get (map.insert c.held.parents fid to_dir) f ≡ None
    moved_over f other none = elim (fid_cases f fid) [
      | inl same ↦ absurd (false≢true (sym (ap is_some none) ∙ has_changed (changed less from_dir (λ n. unbind_in n from)) to_dir (λ n. bind_in n to fid) f ∙ has_changed less from_dir (λ n. unbind_in n from) f ∙ ap (has less) same
          ∙ ap is_some (gone_else fids_total exact_fids c.held.nodes over.fid fid (λ e. r.replaced.1 (sym e))) ∙ r.there))
      | inr off ↦
          get_else fids_total exact_fids c.held.parents fid to_dir f off
          ∙ are f (sym (gone_else fids_total exact_fids c.held.nodes over.fid f other) ∙ absent_changed less from_dir (λ n. unbind_in n from) f (absent_changed (changed less from_dir (λ n. unbind_in n from)) to_dir (λ n. bind_in n to fid) f none))
    ]

-- a fetch
pub fetch_fits : (h : Held) (fid : Fid) (parent : Option Fid) (node : Node) → HasNoOrphans h → HasNoOrphans (held_after_fetch h fid parent node)
fetch_fits h fid None node are = put_fits h.nodes h.parents fid node are
fetch_fits h fid (Some dir) node are = parent_fits (map.insert h.nodes fid node) h.parents fid dir (ap is_some (get_here fids_total h.nodes fid node)) (put_fits h.nodes h.parents fid node are)

entry_fits : (c : ClientState) (e : ClientEntry) → MayEnter c e → HasNoOrphans c.held → HasNoOrphans (client_after c e).held
entry_fits c (entry.Op volume rec) may are = operation_fits c volume rec rec.op (accepted_relies (sight_of c volume) volume may.ask rec.op may.accepted) are
entry_fits c (entry.Freeze volume number home last) may are = are
entry_fits c (entry.Settled volume number verdict) may are = are
entry_fits c (entry.Giveup volume) may are = are
entry_fits c (entry.Fetched fid parent node) may are = fetch_fits c.held fid parent node are
entry_fits c (entry.Dropped fid) may are = taken_fits c.held.nodes c.held.parents fid are
entry_fits c (entry.Hoard change) may are = are
entry_fits c (entry.Snapshot snapshot) may are = are

payload_fits : (c : ClientState) (payload : Payload) → MayEnterAll c payload → HasNoOrphans c.held → HasNoOrphans (client_after_all c payload).held
payload_fits c [] may are = are
payload_fits c (e ∷ payload) may are = payload_fits (client_after c e) payload may.1 (entry_fits c e may.0 are)

-- a client with a history
pub no_orphans : (header : Header) (history : List Payload) → IsHistory header history → HasNoOrphans (state_of header history).held
no_orphans header history lawful = along (MayFollow header) (λ past. HasNoOrphans (state_of header past).held) more history none lawful
  where
    none : HasNoOrphans (state_of header []).held
    none f is = map.get-empty fid_cmp f

    more : (past : List Payload) (payload : Payload) → HasNoOrphans (state_of header past).held → MayFollow header past payload → HasNoOrphans (state_of header (past ++ payload ∷ [])).held
    more past payload are may = subst (λ c. HasNoOrphans c.held) (sym (left_push client_after_all (new_client header.number header.cache) past payload)) (payload_fits (state_of header past) payload may.0 are)
