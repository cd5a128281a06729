-- A client stays ready as it fetches, and the steps of rounds may be entered.
use Rattle.std.proofs.Common.{◌≡◌, ℕ, ◌+◌, Bool, true, false, List, [], ◌∷◌, ◌++◌, Option, Some, None}
use Rattle.std.proofs.Common.{is_some, Ok, refl, sym, ap, ◌∙◌, subst, ⊎_elim}
use Rattle.std.proofs.lemmas.Bool.{or_left, or_right, or_cases, and_parts, false≢true, false_from_ne_true}
use Rattle.std.proofs.lemmas.Option.{none-some}
use Rattle.std.specs.FinMap as map
use Rattle.coda_fid.specs.Fid.{same_fid}
use Rattle.coda_fid.specs.declared.fid.Fid.{Fid}
use Rattle.coda_fid.specs.declared.op.Op.{Op}
use Rattle.coda_fid.specs.declared.op.Op.TheVariants.{Create, Mkdir, Symlink, Store, Setattr, Remove, Rmdir, Rename}
use Rattle.coda_fid.specs.declared.op.Record.{Record}
use Rattle.coda_fid.proofs.Fids.{fids_total, exact_fids}
use Rattle.coda_tree.specs.declared.node.Node.{Node}
use Rattle.coda_tree.proofs.Order.{get_else}
use Rattle.coda_cancel.specs.Cancel.{is_undone}
use Rattle.coda_cancel.specs.Dropping.{mentioning}
use Rattle.coda_cml.specs.Steady.{any_record, makes_in}
use Rattle.coda_cache.specs.Uses.{latest}
use Rattle.coda_record.specs.declared.entry.ClientEntry.TheVariants as entry
use Rattle.coda_venus.specs.Accepting.{is_mentioned, next_fid, sight_of}
use Rattle.coda_venus.specs.History.{IsDirty, IsParent, MayEnterAll}
use Rattle.coda_venus.specs.State.{ClientState, client_after}
use Rattle.coda_venus.specs.Serving.{ServingClient}
use Rattle.coda_venus.specs.Rounds.{RoundStep, Looked, Installed, dropping, copies_with, copies_without, serving_after}
use Rattle.coda_venus.specs.Rounds.{Sources, parent_of_fetched, goes_for_fetch, ClientCall, Rounds, answers, fails, turned}
use Rattle.coda_venus.specs.Rounds.{again}
use Rattle.coda_rounds.specs.Laws.{IsUnserved, NeedsUnserved}
use Rattle.coda_rounds.specs.Entering.{IsPlaced, MayEnterSteps, IsReady, NeedsPlaced, AnswersMayBeEntered}
use Rattle.coda_rounds.specs.Entering.{RoundsMayBeEntered}
use Rattle.coda_rounds.proofs.DroppedBelow.{dropped_clean, left_number}
use Rattle.coda_rounds.proofs.Entering.{what_goes_may_be_dropped}
use Rattle.coda_rounds.proofs.Fetching.{fits_left, fetches_may_be_entered}
use Rattle.coda_rounds.proofs.InOrder.{order_looked, order_fetched, parent_still}
use Rattle.coda_rounds.proofs.Replies.{left_of, left_node, left_volumes, drops_first}

-- what makes an object mentions it
makes_one : (dir f : Fid) (p : Op) → makes_in dir f p ≡ true → mentioning f p ≡ true
makes_one dir f (Create home name it mode owner) h =
    or_right (same_fid home f) _ (or_left (same_fid it f) false (and_parts (same_fid home dir) (same_fid it f) h).1)
makes_one dir f (Mkdir home name it mode owner) h =
    or_right (same_fid home f) _ (or_left (same_fid it f) false (and_parts (same_fid home dir) (same_fid it f) h).1)
makes_one dir f (Symlink home name it target mode owner) h =
    or_right (same_fid home f) _ (or_left (same_fid it f) false (and_parts (same_fid home dir) (same_fid it f) h).1)
makes_one dir f (Store it pre content) h = absurd (false≢true h)
makes_one dir f (Setattr it pre attrs) h = absurd (false≢true h)
makes_one dir f (Remove home name it pre) h = absurd (false≢true h)
makes_one dir f (Rmdir home name it pre) h = absurd (false≢true h)
makes_one dir f (Rename from_dir from to_dir to it over) h = absurd (false≢true h)

makes_mention : (dir f : Fid) (recs : List Record) → any_record (makes_in dir f) recs ≡ true
    → any_record (mentioning f) recs ≡ true
makes_mention dir f [] h = absurd (false≢true h)
makes_mention dir f (rec ∷ recs) h = ⊎_elim
    (λ (a : makes_in dir f rec.op ≡ true). or_left (mentioning f rec.op) _ (makes_one dir f rec.op a))
    (λ (b : any_record (makes_in dir f) recs ≡ true). or_right (mentioning f rec.op) _ (makes_mention dir f recs b))
    (or_cases (makes_in dir f rec.op) (any_record (makes_in dir f) recs) h)

pub ready_looked : (sources : Sources) (s : ServingClient) (volume : ℕ) (looked : List Fid) → IsReady sources s volume
    → IsReady sources (serving_after s (Looked looked)) volume
ready_looked sources s volume looked r = record {
  order = order_looked s looked r.order;
  stand = r.stand;
  within = r.within;
  free = r.free;
  nowhere = r.nowhere;
}

-- ---- a fetch

module _ (sources : Sources) (emulating : Bool) (volume : ℕ) (s : ServingClient) (ready : IsReady sources s volume) (fid : Fid) (node : Node) (server : ℕ) (keep gone : List Fid) (given : sources fid ≡ Ok (node, server)) (unserved : IsUnserved emulating s fid) (placed : IsPlaced s fid) (room : goes_for_fetch s fid node keep ≡ Ok gone) where
  abbrev parent : Option Fid
  parent = parent_of_fetched s.client.held fid

  abbrev then_left : ClientState
  then_left = left_of s.client gone

  abbrev copies : Fid → Option ℕ
  copies = copies_with (copies_without s.beside.copies gone) fid server

  abbrev behind : ServingClient
  behind = record {
    client = client_after then_left (entry.Fetched fid parent node);
    beside = record { copies = copies; uses = latest s.beside.uses fid };
  }

  may : MayEnterAll s.client (dropping gone)
  may = what_goes_may_be_dropped s fid node keep gone ready.order.orderly room

  fits : IsParent then_left.held fid parent
  fits = fits_left s fid node keep gone room ready.order.orderly placed

  same_next : next_fid (sight_of behind.client volume) volume ≡ next_fid (sight_of s.client volume) volume
  same_next i = record {
    volume = volume;
    vnode = left_number s.client gone i;
    uniq = (left_volumes s.client gone i volume).creations + 1;
  }

  -- what stands where it was made is mentioned, so it neither goes nor is fetched
  stands : (dir f : Fid) → is_undone f (s.client.volumes volume).log.records ≡ true
      → any_record (makes_in dir f) (s.client.volumes volume).log.records ≡ true
      → map.get behind.client.held.parents f ≡ Some dir
  stands dir f undone makes =
      let at = ready.stand dir f undone makes in
      let mentioned : is_mentioned (s.client.volumes volume) f ≡ true = or_right (any_record (mentioning f) (s.client.volumes volume).log.chunk) _ (makes_mention dir f (s.client.volumes volume).log.records makes) in
      let dirty : IsDirty s.client f = ap (λ v. is_mentioned (s.client.volumes v) f) (ready.within f mentioned) ∙ mentioned in
      parent_still s gone fid parent node copies ready.order may fits f dir
      (λ same. false≢true (sym (unserved.clean (ap (λ x. is_some (map.get s.client.held.nodes x)) (sym same)
      ∙ ready.order.orderly.cached f dir at)) ∙ subst (IsDirty s.client) same dirty))
      (false_from_ne_true _ (λ goes. dropped_clean s.client gone may f goes dirty)) at

  free_then : map.get behind.client.held.nodes (next_fid (sight_of s.client volume) volume) ≡ None
  free_then =
      let next : Fid = next_fid (sight_of s.client volume) volume in
      get_else fids_total exact_fids then_left.held.nodes fid node next
      (λ same. ready.nowhere (node, server) (ap sources same ∙ given))
      ∙ none (map.get then_left.held.nodes next) refl
    where
      none : (o : Option Node) → map.get then_left.held.nodes (next_fid (sight_of s.client volume) volume) ≡ o → o ≡ None
      none None e = refl
      none (Some n) e =
          absurd (none-some n (sym ready.free
          ∙ left_node s.client gone (next_fid (sight_of s.client volume) volume) n e))

  ready_behind : IsReady sources behind volume
  ready_behind =
      let same = left_volumes s.client gone in record {
        order = order_fetched s gone fid parent node copies ready.order may fits;
        stand = λ dir f undone makes.
            stands dir f (ap (λ v. is_undone f (v volume).log.records) (sym same) ∙ undone)
            (ap (λ v. any_record (makes_in dir f) (v volume).log.records) (sym same) ∙ makes);
        within = λ f m. ready.within f (ap (λ v. is_mentioned (v volume) f) (sym same) ∙ m);
        free = ap (map.get behind.client.held.nodes) same_next ∙ free_then;
        nowhere = λ g e. ready.nowhere g (ap sources (sym same_next) ∙ e);
      }

  pub ready_fetched : IsReady sources (serving_after s (Installed gone fid parent node server)) volume
  ready_fetched =
      subst
      (λ (c : ClientState). IsReady sources (record {
        client = c;
        beside = record { copies = copies; uses = latest s.beside.uses fid };
      }) volume) (sym (drops_first s.client gone (entry.Fetched fid parent node ∷ []))) ready_behind

-- ---- rounds

module _ (sources : Sources) (emulating : Bool) (volume : ℕ) (call : ClientCall ℕ) (needs : NeedsUnserved emulating call) (place : NeedsPlaced call) (answering : AnswersMayBeEntered sources volume call) where
  enters : (fetched : List Fid) (s : ServingClient) (steps : List RoundStep) (answer : ℕ) → IsReady sources s volume
      → Rounds sources call fetched s steps answer → MayEnterSteps s steps
  enters fetched s steps answer ready (answers f' s' looked own a e) =
      (tt, answering fetched s looked own a ready e)
  enters fetched s steps answer ready (fails f' s' looked fid why e none) = (tt, tt)
  enters fetched s steps answer ready (turned f' s' looked fid node server why e there full) = (tt, (tt, tt))
  enters fetched s steps answer ready (again f' s' looked fid node server gone later a e there room rest) =
      let now : ServingClient = serving_after s (Looked looked) in
      let still : IsReady sources now volume = ready_looked sources s volume looked ready in
      let was : IsUnserved emulating s fid = needs fetched s looked fid e in
      let unserved : IsUnserved emulating now fid = record { linked = was.linked; clean = was.clean; stale = was.stale } in
      let placed : IsPlaced now fid = place fetched s looked fid e in (
        tt,
        (
          fetches_may_be_entered emulating now fid node server fetched gone still.order.orderly unserved placed room,
          enters (fetched ++ fid ∷ []) (serving_after now (Installed gone fid (parent_of_fetched s.client.held fid) node server))
              later a
              (ready_fetched sources emulating volume now still fid node server fetched gone there unserved placed room)
              rest,
        ),
      )

pub rounds_may_be_entered : RoundsMayBeEntered
rounds_may_be_entered sources emulating volume call fetched s steps answer needs place answering ready rounds =
    enters sources emulating volume call needs place answering fetched s steps answer ready rounds
