-- A directory is fetched again as a file, and an object is moved onto it, into a directory that is cached below it. That one goes with
-- what is replaced, and then the parent of the moved object isn't cached.
use Rattle.std.proofs.Common.{◌≡◌, ◌==◌, ℕ, zero, suc, ◌||◌, Bool, true, false, cond, [], ◌∷◌, Option, Some, None, is_some, Result, Ok, Err, refl, sym, ap, subst, ◌∙◌, inl, inr, arith}
use Rattle.std.specs.Prelude.{not}
use Rattle.std.specs.Option.{option_map_or}
use Rattle.std.specs.FinMap as map
use Rattle.std.proofs.lemmas.Bool.{false≢true}
use Rattle.std.proofs.lemmas.Cmp.{nat_list_cmp_total}
use Rattle.std.proofs.lemmas.Map.Lookups.{exact_bytes}
use Rattle.coda_fid.specs.Fid.{fid_cmp, root_of, same_fid}
use Rattle.coda_fid.specs.declared.fid.Fid.{Fid}
use Rattle.coda_fid.specs.declared.fid.Sid.{Sid}
use Rattle.coda_fid.specs.declared.op.Op.TheVariants.{Rename}
use Rattle.coda_fid.specs.declared.op.Over.{Over}
use Rattle.coda_fid.specs.declared.op.Record.{Record}
use Rattle.coda_fid.proofs.Fids.{fids_total, exact_fids}
use Rattle.coda_tree.specs.declared.node.Node.{Node}
use Rattle.coda_tree.specs.Bindings.{Name}
use Rattle.coda_tree.specs.Volume.{Nodes, has, IsDirNode, bind_in}
use Rattle.coda_tree.proofs.Order.{get_here, get_else}
use Rattle.coda_cancel.proofs.Keys.{fid_false}
use Rattle.coda_cache.specs.Parents.{below_within}
use Rattle.coda_certify.specs.Replay.{empty_dir, empty_file, applied}
use Rattle.coda_record.specs.declared.entry.ClientEntry.{ClientEntry}
use Rattle.coda_record.specs.declared.entry.ClientEntry.TheVariants.{Op, Fetched}
use Rattle.coda_venus.specs.Accepting.{sight_of, spot, place, held_bound, bound_at, move_to, rename_to, is_dir_at, with_version, replaced_by, accept}
use Rattle.coda_venus.specs.Ask.{Rename as AskedRename}
use Rattle.coda_venus.specs.Held.{Parents, is_below, stays}
use Rattle.coda_venus.specs.History.{MayEnter}
use Rattle.coda_venus.specs.Looking.{then_find, held, found, step_from, resolve}
use Rattle.coda_venus.specs.State.{ClientState, new_client, client_after}
use Rattle.coda_venus.specs.declared.refused.Refused.{Refused}
use Rattle.coda_venus.specs.declared.refused.Refused.TheVariants.{Exists, Loop}
use Rattle.coda_histories.specs.Forests.{IsForest, FilesInPlaceOfDirectoriesLoseParents}
use Rattle.coda_histories.proofs.Entries.{made, replacing_nothing}
use Rattle.coda_histories.proofs.Ways.{get_left, below_itself, below_by}

-- ---- the objects

abbrev root : Fid
root = root_of 7

abbrev replaced : Fid
replaced = record { volume = 7; vnode = 1; uniq = 2 }

abbrev lower : Fid
lower = record { volume = 7; vnode = 1; uniq = 3 }

abbrev moved : Fid
moved = record { volume = 7; vnode = 1; uniq = 4 }

abbrev version : Sid
version = record { client = 1; number = 1 }

abbrev a : Name
a = 97 ∷ []

abbrev b : Name
b = 98 ∷ []

abbrev x : Name
x = 120 ∷ []

abbrev file : Node
file = empty_file 420 0 0 version

abbrev dir : Node
dir = empty_dir 493 0 0 version

-- the root binds the lower directory, under the one that it is cached below, and the object that is to be moved
abbrev root_dir : Node
root_dir = bind_in (bind_in dir b lower) x moved

-- the lower directory binds the one that it is cached below
abbrev lower_dir : Node
lower_dir = bind_in dir a replaced

-- ---- the entries

abbrev fresh : ClientState
fresh = new_client 1 100

abbrev root_fetched : ClientEntry
root_fetched = Fetched root None root_dir

abbrev with_root : ClientState
with_root = client_after fresh root_fetched

abbrev replaced_fetched : ClientEntry
replaced_fetched = Fetched replaced (Some root) dir

abbrev with_replaced : ClientState
with_replaced = client_after with_root replaced_fetched

abbrev lower_fetched : ClientEntry
lower_fetched = Fetched lower (Some replaced) lower_dir

abbrev with_lower : ClientState
with_lower = client_after with_replaced lower_fetched

abbrev moved_fetched : ClientEntry
moved_fetched = Fetched moved (Some root) file

abbrev with_moved : ClientState
with_moved = client_after with_lower moved_fetched

abbrev file_fetched : ClientEntry
file_fetched = Fetched replaced (Some root) file

abbrev with_file : ClientState
with_file = client_after with_moved file_fetched

abbrev rec : Record
rec = record { number = 1; time = 0; op = Rename root x lower a moved (Some (record { fid = replaced; pre = version })) }

abbrev moving : ClientEntry
moving = Op 7 rec

-- ---- what is cached

at : {A : Type 0} (m : map.FinMap fid_cmp A) (f : Fid) (y : A) → map.get (map.insert m f y) f ≡ Some y
at m f y = get_here fids_total m f y

off : {A : Type 0} (m : map.FinMap fid_cmp A) (f : Fid) (y : A) (q : Fid) → same_fid q f ≡ false → map.get (map.insert m f y) q ≡ map.get m q
off m f y q e = get_else fids_total exact_fids m f y q (fid_false q f e)

none : {A : Type 0} (f : Fid) → map.get (map.empty {X = A} {R = fid_cmp}) f ≡ None
none f = map.get-empty fid_cmp f

root_is_first : map.get with_root.held.nodes root ≡ Some root_dir
root_is_first = at fresh.held.nodes root root_dir

root_with_replaced : map.get with_replaced.held.nodes root ≡ Some root_dir
root_with_replaced = off with_root.held.nodes replaced dir root refl ∙ root_is_first

root_with_lower : map.get with_lower.held.nodes root ≡ Some root_dir
root_with_lower = off with_replaced.held.nodes lower lower_dir root refl ∙ root_with_replaced

root_is : map.get with_file.held.nodes root ≡ Some root_dir
root_is = off with_moved.held.nodes replaced file root refl ∙ off with_lower.held.nodes moved file root refl ∙ root_with_lower

replaced_is_dir : map.get with_replaced.held.nodes replaced ≡ Some dir
replaced_is_dir = at with_root.held.nodes replaced dir

replaced_is : map.get with_file.held.nodes replaced ≡ Some file
replaced_is = at with_moved.held.nodes replaced file

lower_is : map.get with_file.held.nodes lower ≡ Some lower_dir
lower_is = off with_moved.held.nodes replaced file lower refl ∙ off with_lower.held.nodes moved file lower refl ∙ at with_replaced.held.nodes lower lower_dir

moved_is : map.get with_file.held.nodes moved ≡ Some file
moved_is = off with_moved.held.nodes replaced file moved refl ∙ at with_lower.held.nodes moved file

under_replaced : map.get with_moved.held.parents replaced ≡ Some root
under_replaced = off with_lower.held.parents moved root replaced refl ∙ off with_replaced.held.parents lower replaced replaced refl ∙ at with_root.held.parents replaced root

under_lower : map.get with_file.held.parents lower ≡ Some replaced
under_lower = off with_moved.held.parents replaced root lower refl ∙ off with_lower.held.parents moved root lower refl ∙ at with_replaced.held.parents lower replaced

under_moved : map.get with_file.held.parents moved ≡ Some root
under_moved = off with_moved.held.parents replaced root moved refl ∙ at with_lower.held.parents moved root

under_root : map.get with_file.held.parents root ≡ None
under_root =
    off with_moved.held.parents replaced root root refl ∙ off with_lower.held.parents moved root root refl ∙ off with_replaced.held.parents lower replaced root refl ∙ off with_root.held.parents replaced root root refl ∙ none root

-- ---- each entry may follow

root_may : MayEnter fresh root_fetched
root_may = ((λ both. absurd (false≢true both.1)), (none root, inr refl))

replaced_may : MayEnter with_root replaced_fetched
replaced_may = ((λ both. absurd (false≢true both.1)), inr (off fresh.held.nodes root root_dir replaced refl ∙ none replaced, inl (fid_false replaced root refl, subst IsDirNode (sym root_is_first) tt)))

lower_may : MayEnter with_replaced lower_fetched
lower_may = (
  (λ both. absurd (false≢true both.1)),
  inr (off with_root.held.nodes replaced dir lower refl ∙ off fresh.held.nodes root root_dir lower refl ∙ none lower, inl (fid_false lower root refl, subst IsDirNode (sym replaced_is_dir) tt)),
)

moved_may : MayEnter with_lower moved_fetched
moved_may = (
  (λ both. absurd (false≢true both.1)),
  inr (
    off with_replaced.held.nodes lower lower_dir moved refl ∙ off with_root.held.nodes replaced dir moved refl ∙ off fresh.held.nodes root root_dir moved refl ∙ none moved,
    inl (fid_false moved root refl, subst IsDirNode (sym root_with_lower) tt),
  ),
)

file_may : MayEnter with_moved file_fetched
file_may = ((λ both. absurd (false≢true both.1)), inl under_replaced)

-- ---- the rename may follow

then_on : {A B : Type 0} (r : Result A Refused) (next : A → Result B Refused) (y : A) (z : Result B Refused) → r ≡ Ok y → next y ≡ z → then_find r next ≡ z
then_on r next y z is rest = subst (λ q. then_find q next ≡ z) (sym is) rest

abbrev nodes : Nodes
nodes = with_file.held.nodes

-- where the names lead, and what they bind there
from_is : spot nodes 7 ([], x) ≡ Ok (root, moved)
from_is =
    then_on (resolve nodes root []) (λ d. then_find (step_from (map.get nodes d) d x) (λ fid. then_find (held (map.get nodes fid) fid) (λ there. Ok (d, there)))) root (Ok (root, moved)) (ap (λ o. held o root) root_is)
    (then_on (step_from (map.get nodes root) root x) (λ fid. then_find (held (map.get nodes fid) fid) (λ there. Ok (root, there))) moved (Ok (root, moved)) step
    (then_on (held (map.get nodes moved) moved) (λ there. Ok (root, there)) moved (Ok (root, moved)) (ap (λ o. held o moved) moved_is) refl))
  where
    step : step_from (map.get nodes root) root x ≡ Ok moved
    step = ap (λ o. step_from o root x) root_is ∙ ap found (get_here nat_list_cmp_total (map.insert map.empty b lower) x moved)

to_is : resolve nodes root (b ∷ []) ≡ Ok lower
to_is = then_on (step_from (map.get nodes root) root b) (λ next. resolve nodes next []) lower (Ok lower) step (ap (λ o. held o lower) lower_is)
  where
    other : b ≡ x → ⊥
    other same = absurd (false≢true (ap is_b (sym same)))
      where
        is_b : Name → Bool
        is_b [] = false
        is_b (c ∷ rest) = c == 98

    step : step_from (map.get nodes root) root b ≡ Ok lower
    step = ap (λ o. step_from o root b) root_is ∙ ap found (get_else nat_list_cmp_total exact_bytes (map.insert map.empty b lower) x moved b other ∙ get_here nat_list_cmp_total map.empty b lower)

place_is : place nodes 7 (b ∷ [], a) ≡ Ok (lower, Some replaced)
place_is =
    then_on (resolve nodes root (b ∷ [])) (λ d. then_find (bound_at nodes (map.get nodes d) d a) (λ bound. Ok (d, bound))) lower (Ok (lower, Some replaced)) to_is
    (then_on (bound_at nodes (map.get nodes lower) lower a) (λ bound. Ok (lower, bound)) (Some replaced) (Ok (lower, Some replaced)) bound refl)
  where
    bound : bound_at nodes (map.get nodes lower) lower a ≡ Ok (Some replaced)
    bound =
        ap (λ o. bound_at nodes o lower a) lower_is ∙ ap (held_bound nodes) (get_here nat_list_cmp_total map.empty a replaced) ∙ ap (λ o. then_find (held o replaced) (λ there. Ok (Some there))) replaced_is

-- no way up from an object leads to another one
top : (parents : Parents) (n : ℕ) (f g : Fid) → map.get parents f ≡ None → same_fid f g ≡ false → below_within parents n f g ≡ false
top parents zero f g is e = e
top parents (suc n) f g is e = (λ i. e i || option_map_or (λ p. below_within parents n p g) (is i) false)

up : (parents : Parents) (f p g : Fid) → map.get parents f ≡ Some p → same_fid f g ≡ false → ((n : ℕ) → below_within parents n p g ≡ false) → (n : ℕ) → below_within parents n f g ≡ false
up parents f p g is e above zero = e
up parents f p g is e above (suc n) = (λ i. e i || option_map_or (λ q. below_within parents n q g) (is i) false) ∙ above n

under_none : (n : ℕ) → below_within with_file.held.parents n lower moved ≡ false
under_none =
    up with_file.held.parents lower replaced moved under_lower refl
    (up with_file.held.parents replaced root moved (at with_moved.held.parents replaced root) refl (λ n. top with_file.held.parents n root moved under_root refl))

apart : is_below with_file.held.parents lower moved ≡ false
unfolding is_below
apart = under_none (map.len with_file.held.parents)

-- what a rename of one node onto another replaces
abbrev by_nodes : Option Node → Option Node → Result (Option Over) Refused
by_nodes o p = cond (same_fid replaced moved || (is_dir_at o || is_dir_at p)) (Err Exists) (with_version p replaced)

-- neither is a directory
replaces : replaced_by nodes moved (Some replaced) ≡ Ok (Some (record { fid = replaced; pre = version }))
replaces = (λ i. by_nodes (moved_is i) (replaced_is i))

accepted : accept (sight_of with_file 7) 7 (AskedRename (x ∷ []) (b ∷ a ∷ [])) ≡ Ok rec.op
unfolding accept
accepted =
    then_on (spot nodes 7 ([], x)) (λ found. rename_to (sight_of with_file 7) 7 found.0 x found.1 (Some (b ∷ [], a))) (root, moved) (Ok rec.op) from_is
    (then_on (place nodes 7 (b ∷ [], a)) (λ p. move_to with_file.held root x moved a p) (lower, Some replaced) (Ok rec.op) place_is
    (ap (λ below. cond below (Err Loop) (then_find (replaced_by nodes moved (Some replaced)) (λ over. Ok (Rename root x lower a moved over)))) apart
    ∙ then_on (replaced_by nodes moved (Some replaced)) (λ over. Ok (Rename root x lower a moved over)) (Some (record { fid = replaced; pre = version })) (Ok rec.op) replaces refl))

moving_may : MayEnter with_file moving
moving_may = record {
  ask = AskedRename (x ∷ []) (b ∷ a ∷ []);
  small = refl;
  accepted = accepted;
  next = refl;
  few = omega arith;
  room = refl;
}

-- ---- what is left

forest : IsForest with_file.held
forest =
    replacing_nothing with_moved file_fetched file_may tt (replacing_nothing with_lower moved_fetched moved_may tt (replacing_nothing with_replaced lower_fetched lower_may tt (replacing_nothing with_root replaced_fetched replaced_may tt (replacing_nothing fresh root_fetched root_may tt (made 1 100).0))))

-- the moved object stays below the lower directory
moved_stays : stays with_file.held.parents replaced moved ≡ true
unfolding is_below
moved_stays = ap not (up with_file.held.parents moved root replaced under_moved refl (λ n. top with_file.held.parents n root replaced under_root refl) (map.len with_file.held.parents))

-- which goes with what it is cached below
lower_goes : stays with_file.held.parents replaced lower ≡ false
lower_goes = ap not ((below_by with_file.held.parents forest.depth forest.deeper lower replaced replaced under_lower).1 (below_itself with_file.held.parents replaced))

abbrev after_moving : ClientState
after_moving = client_after with_file moving

under_lower_now : map.get after_moving.held.parents moved ≡ Some lower
under_lower_now =
    get_left (map.insert with_file.held.parents moved lower) (stays with_file.held.parents replaced) moved ∙ ap (λ test. cond test (map.get (map.insert with_file.held.parents moved lower) moved) None) moved_stays ∙ at with_file.held.parents moved lower

lost : IsForest after_moving.held → ⊥
lost is = false≢true (sym gone ∙ is.parents moved lower under_lower_now)
  where
    gone : has after_moving.held.nodes lower ≡ false
    gone = ap is_some (get_left (applied nodes 1 rec) (stays with_file.held.parents replaced) lower ∙ ap (λ test. cond test (map.get (applied nodes 1 rec) lower) None) lower_goes)

pub orphaned : FilesInPlaceOfDirectoriesLoseParents
orphaned = (1, 100, root_fetched ∷ replaced_fetched ∷ lower_fetched ∷ moved_fetched ∷ file_fetched ∷ moving ∷ [], (root_may, (replaced_may, (lower_may, (moved_may, (file_may, (moving_may, tt)))))), lost)
