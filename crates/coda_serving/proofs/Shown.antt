-- What is at a path is shown as the client on a disk shows it.
use Rattle.std.proofs.Common.{◌≡◌, ℕ, Bool, List, [], ◌∷◌, ◌++◌, append-nil, append_assoc, Option, Some, Result, Ok, Err, refl, sym, ap, ◌∙◌, subst}
use Rattle.std.specs.FinMap as map
use Rattle.coda_fid.specs.Fid.{root_of}
use Rattle.coda_fid.specs.declared.fid.Fid.{Fid}
use Rattle.coda_tree.specs.Bindings.{Name}
use Rattle.coda_tree.specs.Volume.{Nodes, parent_of}
use Rattle.coda_tree.specs.declared.node.Node.{Node}
use Rattle.coda_tree.specs.declared.node.NodeKind.{NodeKind}
use Rattle.coda_tree.specs.declared.node.NodeKind.TheVariants.{File, Link, Dir}
use Rattle.coda_plain.specs.Cell.{Fetched}
use Rattle.coda_venus.specs.Keeping.{cached, seen_at}
use Rattle.coda_venus.specs.Looking as venus_looking
use Rattle.coda_venus.specs.State.{ClientState as VenusState}
use Rattle.coda_venus.specs.declared.refused.Refused.{Refused as VenusRefused}
use Rattle.coda_venus.specs.declared.refused.Refused.TheVariants as venus
use Rattle.coda_venus.specs.declared.seen.Seen.{Seen}
use Rattle.coda_serving.specs.Answering.{showing, shown_as}
use Rattle.coda_serving.specs.Fetching.{is_among, IsFetchable}
use Rattle.coda_serving.specs.declared.asking.Showing.{Showing}
use Rattle.coda_serving.specs.declared.asking.Showing.TheVariants.{Content, Names}
use Rattle.coda_cell.specs.Asking.{Said, Answer, answers, read_in, list_in, shown_at, show_object}
use Rattle.coda_cell.specs.Asking as cell_asking
use Rattle.coda_cell.specs.Held.{Fetch, held_after_fetches}
use Rattle.coda_venus.specs.Held.{Held}
use Rattle.coda_cell.specs.Looking.{look_along, fids_of, entries_of}
use Rattle.coda_venus.specs.Looking.{resolve}
use Rattle.coda_cell.specs.State.{ClientState, client_after}
use Rattle.coda_cell.specs.Refused.{Refused}
use Rattle.coda_cell.specs.Refused as refused
use Rattle.coda_cell.proofs.Unlooked.{MissesNothing, no_look_along}
use Rattle.coda_cell.specs.Refusing.{client_refused_as}
use Rattle.coda_serving.specs.Serving.{AreSpelledOffers, IsShown, reply_of, show_answer}
use Rattle.coda_serving.proofs.Answers.{AnswersAs, Gives, NeedsNothing, behind, fetch_by}
use Rattle.coda_serving.proofs.Needed.{IsMissing, along_missing, along_first, along_none}
use Rattle.coda_serving.proofs.Operated.{offers_are, not_offered, venus_err, ok_is, misses_nothing}
use Rattle.coda_serving.proofs.Pairs.{IsPair, nodes_are}
use Rattle.coda_serving.proofs.Walks.{resolve_has}

-- ---- what the client on a disk shows

-- an object as it is shown
abbrev shown_of : Showing → Fid → Node → Result Seen VenusRefused
shown_of what fid node = venus_looking.then_find (shown_as what node node.kind) (λ n. Ok (record { fid = fid; node = n }))

-- the path leads nowhere, or to an object that is held
data IsSeen (what : Showing) (m : Nodes) (at : Fid) (path : List Name) (r : Result Seen VenusRefused) : Type 0 where
  Nowhere : (why : VenusRefused) → venus_looking.resolve m at path ≡ Err why → r ≡ Err why → IsSeen what m at path r
  There : (fid : Fid) (node : Node) → venus_looking.resolve m at path ≡ Ok fid → map.get m fid ≡ Some node → r ≡ shown_of what fid node → IsSeen what m at path r

seen_is : (what : Showing) (m : Nodes) (volume : ℕ) (path : List Name) → IsSeen what m (root_of volume) path (seen_at (shown_as what) m volume path)
seen_is what m volume path = by (venus_looking.resolve m (root_of volume) path) refl
  where
    by : (r : Result Fid VenusRefused) → venus_looking.resolve m (root_of volume) path ≡ r → IsSeen what m (root_of volume) path (venus_looking.then_find r (λ fid. venus_looking.then_find (cached (map.get m fid) fid) (λ node. shown_of what fid node)))
    by (Err why) is = Nowhere why is refl
    by (Ok fid) is =
        let there = resolve_has m (root_of volume) path fid is in
        There fid there.0 is there.1 (ap (λ o. venus_looking.then_find (cached o fid) (λ node. shown_of what fid node)) there.1)

-- what is shown needs no object
shown_never : (what : Showing) (fid : Fid) (node : Node) (gone : Fid) → shown_of what fid node ≡ Err (venus.Need gone) → ⊥
shown_never what fid node gone is = by what node.kind is
  where
    by : (what : Showing) (kind : NodeKind) → venus_looking.then_find (shown_as what node kind) (λ n. Ok (let seen : Seen = record { fid = fid; node = n } in seen)) ≡ Err (venus.Need gone) → ⊥
    by Content (File content) x = cc
    by Content (Link target) x = cc
    by Content (Dir entries) x = cc
    by Names (File content) x = cc
    by Names (Link target) x = cc
    by Names (Dir entries) x = cc

-- ---- what the client of a cell answers

-- how it shows an object
abbrev show_in : Showing → Bool → NodeKind → Said
show_in Content = read_in
show_in Names = list_in

-- the answer by where a path leads, where these objects were fetched
abbrev shown_by : (Bool → NodeKind → Said) → List Fid → Nodes → Result Fid VenusRefused → Said
shown_by show fids m (Err why) = Err (client_refused_as why)
shown_by show fids m (Ok fid) = cell_asking.shown_as show (is_among fids fid) (map.get m fid) fid

-- a refusal to show is one for both
shown_refused : (what : Showing) (fid : Fid) (node : Node) (fetched : Bool) (why : VenusRefused) → shown_of what fid node ≡ Err why → show_in what fetched node.kind ≡ Err (client_refused_as why)
shown_refused what fid node fetched why is = by what node.kind is
  where
    by : (what : Showing) (kind : NodeKind) → venus_looking.then_find (shown_as what node kind) (λ n. Ok (let seen : Seen = record { fid = fid; node = n } in seen)) ≡ Err why → show_in what fetched kind ≡ Err (client_refused_as why)
    by Content (File content) x = cc
    by Content (Link target) x = cc
    by Content (Dir entries) x = ap (λ w. Err (client_refused_as w)) (venus_err {A = Seen} venus.IsDir why x)
    by Names (File content) x = ap (λ w. Err (client_refused_as w)) (venus_err {A = Seen} venus.NotDir why x)
    by Names (Link target) x = ap (λ w. Err (client_refused_as w)) (venus_err {A = Seen} venus.NotDir why x)
    by Names (Dir entries) x = cc

-- what is shown is shown by both
shown_given : (what : Showing) (fid : Fid) (node : Node) (fetched : Bool) (seen : Seen) → shown_of what fid node ≡ Ok seen → (show_in what fetched node.kind ≡ Ok (reply_of fetched node.kind)) × ((let s : Seen = record { fid = fid; node = node } in s) ≡ seen)
shown_given what fid node fetched seen is = by what node.kind is
  where
    by : (what : Showing) (kind : NodeKind) → venus_looking.then_find (shown_as what node kind) (λ n. Ok (let s : Seen = record { fid = fid; node = n } in s)) ≡ Ok seen
        → (show_in what fetched kind ≡ Ok (reply_of fetched kind)) × ((let s : Seen = record { fid = fid; node = node } in s) ≡ seen)
    by Content (File content) x = (refl, ok_is _ seen x)
    by Content (Link target) x = (refl, ok_is _ seen x)
    by Content (Dir entries) x = cc
    by Names (File content) x = cc
    by Names (Link target) x = cc
    by Names (Dir entries) x = (refl, ok_is _ seen x)

module _ (offers : Option Nodes) (what : Showing) (volume : ℕ) (path : List Name) where
  abbrev top : Fid
  top = root_of volume

  -- what is answered behind these fetches, and behind objects that were fetched before
  abbrev with_fetches : List Fid → Held → List Fetch → Answer
  with_fetches before h l = answers (entries_of l) (shown_by (show_in what) (before ++ fids_of l) (held_after_fetches h l).nodes (resolve (held_after_fetches h l).nodes top path))

  abbrev pub show_from : List Fid → ClientState → Answer
  show_from before c = with_fetches before c.held (look_along offers c.held top path)

  -- what is answered where nothing was fetched before
  pub shows_all : (c : ClientState) → show_answer what offers c volume path ≡ show_from [] c
  shows_all c = by what ∙ ap (answers (entries_of l)) (so (resolve (held_after_fetches c.held l).nodes top path))
    where
      l : List Fetch
      l = look_along offers c.held top path

      by : (what : Showing) → show_answer what offers c volume path ≡ show_object (show_in what) offers c.held volume path
      by Content = refl
      by Names = refl

      so : (r : Result Fid VenusRefused) → shown_at (show_in what) l (held_after_fetches c.held l).nodes r ≡ shown_by (show_in what) (fids_of l) (held_after_fetches c.held l).nodes r
      so (Err why) = refl
      so (Ok fid) = refl

  module _ (spelled : AreSpelledOffers offers) (c : ClientState) (d : VenusState) (pair : IsPair c d) where
    -- paths lead to the same for both
    leads : (r : Result Fid VenusRefused) → venus_looking.resolve d.held.nodes top path ≡ r → resolve c.held.nodes top path ≡ r
    leads r is = ap (λ m. resolve m top path) (sym (nodes_are c d pair)) ∙ is

    -- what is shown at once
    at_once : (before : List Fid) (r : Result Fid VenusRefused) → venus_looking.resolve d.held.nodes top path ≡ r → MissesNothing r
        → show_from before c ≡ answers [] (shown_by (show_in what) before c.held.nodes r)
    at_once before r is nothing =
        let there = leads r is in
        let none = no_look_along offers c.held top path (subst MissesNothing (sym there) nothing) in
        ap (with_fetches before c.held) none ∙ (λ i. answers [] (shown_by (show_in what) (append-nil before i) c.held.nodes (there i)))

    -- what is needed is missing on the way
    needed : (fid : Fid) → seen_at (shown_as what) d.held.nodes volume path ≡ Err (venus.Need fid) → resolve c.held.nodes top path ≡ Err (venus.Need fid)
    needed fid is = by (seen_is what d.held.nodes volume path)
      where
        by : IsSeen what d.held.nodes top path (seen_at (shown_as what) d.held.nodes volume path) → resolve c.held.nodes top path ≡ Err (venus.Need fid)
        by (Nowhere why led r) = leads (Err why) led ∙ ap Err (venus_err {A = Seen} why (venus.Need fid) (sym r ∙ is))
        by (There f node led there r) = absurd (shown_never what f node fid (sym r ∙ is))

    needs : (before : List Fid) (fid : Fid) (node : Node) → seen_at (shown_as what) d.held.nodes volume path ≡ Err (venus.Need fid) → IsFetchable offers d.held.nodes fid node
        → show_from before c ≡ behind (fetch_by d fid node ∷ []) (show_from (before ++ fid ∷ []) (client_after c (fetch_by d fid node)))
    needs before fid node is can =
        let miss = needed fid is in
        let first = along_first offers c.held fid node (offers_are offers fid ∙ can.offer) (along_missing c.held.nodes volume path fid miss).absent top path miss in
        let e = Fetched fid (parent_of c.held.nodes fid) node in
        let l = look_along offers (client_after c e).held top path in
        let m : Nodes = (held_after_fetches (client_after c e).held l).nodes in
        ap (with_fetches before c.held) first
        ∙ ap (λ fids. answers (e ∷ entries_of l) (shown_by (show_in what) fids m (resolve m top path))) (sym (append_assoc before (fid ∷ []) (fids_of l)))
        ∙ ap (λ (m : Nodes). behind (Fetched fid (parent_of m fid) node ∷ []) (show_from (before ++ fid ∷ []) (client_after c (Fetched fid (parent_of m fid) node)))) (sym (nodes_are c d pair))

    lacks : (before : List Fid) (fid : Fid) → seen_at (shown_as what) d.held.nodes volume path ≡ Err (venus.Need fid) → ((node : Node) → ¬ IsFetchable offers d.held.nodes fid node) → show_from before c ≡ answers [] (Err (refused.Miss fid))
    lacks before fid is unfetchable =
        let miss = needed fid is in
        let missing = along_missing c.held.nodes volume path fid miss in
        let gone = not_offered offers d.held.nodes volume fid spelled (subst (λ m. IsMissing m volume fid) (sym (nodes_are c d pair)) missing) unfetchable in
        let none = along_none offers c.held fid gone top path miss in
        ap (with_fetches before c.held) none ∙ ap (λ r. answers [] (shown_by (show_in what) (before ++ []) c.held.nodes r)) miss

    refuses : (before : List Fid) (why : VenusRefused) → seen_at (shown_as what) d.held.nodes volume path ≡ Err why → NeedsNothing why → show_from before c ≡ answers [] (Err (client_refused_as why))
    refuses before why is other = by (seen_is what d.held.nodes volume path)
      where
        by : IsSeen what d.held.nodes top path (seen_at (shown_as what) d.held.nodes volume path) → show_from before c ≡ answers [] (Err (client_refused_as why))
        by (Nowhere e led r) =
            let same : e ≡ why = venus_err {A = Seen} e why (sym r ∙ is) in
            at_once before (Err why) (led ∙ ap Err same) (misses_nothing why other)
        by (There f node led there r) =
            at_once before (Ok f) led tt ∙ ap (λ o. answers [] (cell_asking.shown_as (show_in what) (is_among before f) o f)) (ap (λ (m : Nodes). map.get m f) (sym (nodes_are c d pair)) ∙ there)
            ∙ ap (answers []) (shown_refused what f node (is_among before f) why (sym r ∙ is))

    gives : (before : List Fid) (seen : Seen) → seen_at (shown_as what) d.held.nodes volume path ≡ Ok seen → Gives (showing what volume path) IsShown before seen (show_from before c)
    gives before seen is = by (seen_is what d.held.nodes volume path)
      where
        by : IsSeen what d.held.nodes top path (seen_at (shown_as what) d.held.nodes volume path) → Gives (showing what volume path) IsShown before seen (show_from before c)
        by (Nowhere e led r) = (let no : Err e ≡ Ok seen = sym r ∙ is in cc)
        by (There f node led there r) =
            let given = shown_given what f node (is_among before f) seen (sym r ∙ is) in
            record {
              reply = reply_of (is_among before f) node.kind;
              entries = [];
              is = at_once before (Ok f) led tt ∙ ap (λ o. answers [] (cell_asking.shown_as (show_in what) (is_among before f) o f)) (ap (λ (m : Nodes). map.get m f) (sym (nodes_are c d pair)) ∙ there) ∙ ap (answers []) given.0;
              kept = refl;
              says = ap (λ (s : Seen). reply_of (is_among before s.fid) s.node.kind) given.1;
            }

  -- what is at a path is shown as the client on a disk shows it
  pub shows : AreSpelledOffers offers → AnswersAs offers (showing what volume path) IsShown show_from
  shows spelled = record {
    needs = λ c d pair before fid node is can. needs spelled c d pair before fid node is can;
    lacks = λ c d pair before fid is unfetchable. lacks spelled c d pair before fid is unfetchable;
    refuses = λ c d pair before why is other. refuses spelled c d pair before why is other;
    gives = λ c d pair before seen is. gives spelled c d pair before seen is;
  }
