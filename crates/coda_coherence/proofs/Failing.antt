-- A client fetches the root of a volume, and the server takes over another volume, without one: wrong words make the
-- client's copy stale without word.
use Rattle.std.proofs.Common.{◌≡◌, ℕ, Bool, true, false, cond, not, ◌&&◌, ◌||◌, ◌==◌, [], ◌∷◌, Option, Some, None}
use Rattle.std.proofs.Common.{option_map, refl, sym, ap, ◌∙◌, subst, inr, ⊎_elim, arith}
use Rattle.std.specs.FinMap as map
use Rattle.std.specs.FinSet as set
use Rattle.std.specs.List.Sorted.{IsStrictlySortedBy}
use Rattle.std.proofs.lemmas.Bool.{false≢true, true≢false}
use Rattle.std.proofs.lemmas.Option.{none-some}
use Rattle.coda_fid.specs.Fid.{same_fid, fid_cmp, root_of}
use Rattle.coda_fid.specs.declared.fid.Fid.{Fid}
use Rattle.coda_fid.proofs.Fids.{fids_total, same_fid_refl}
use Rattle.coda_cancel.proofs.Keys.{fid_other}
use Rattle.coda_tree.specs.declared.node.Node.{Node}
use Rattle.coda_tree.specs.Volume.{fresh_root}
use Rattle.coda_tree.proofs.Order.{get_here}
use Rattle.coda_callback.specs.Callbacks.{Callbacks, interest_cmp, interest, names, is_promised, is_waiting}
use Rattle.coda_callback.specs.Callbacks.{no_callbacks, promised, broken_where, IsOutbox}
use Rattle.coda_reslog.specs.declared.change.Held.{Held}
use Rattle.coda_plain.specs.Decisions.{ReplicaEntry, Resolved, no_lasts}
use Rattle.coda_plain.proofs.Objects.{get_nodes}
use Rattle.coda_venus.specs.Accepting.{is_mentioned}
use Rattle.coda_coherence.specs.Cell.{CachingCell, Fetched, Decided, Posted, LinkUp, empty_caching_cell, node_at}
use Rattle.coda_coherence.specs.Cell.{cell_after, MayFetch}
use Rattle.coda_coherence.specs.Fact.{IsBreakUnderWay, IsChangedSince, CallbackFact}
use Rattle.coda_coherence.specs.Changes.{changes}
use Rattle.coda_coherence.specs.Shortcuts.{lost_with_link_up, decided_sparing, IsReachedCell, ShortcutsFail}
use Rattle.coda_coherence.proofs.Interests.{interests_total, alike, waiting_promise, waiting_broken}
use Rattle.coda_coherence.proofs.Interests.{waiting_collected, promised_promise, same_interest, same_interest_is}
use Rattle.coda_coherence.proofs.Interests.{same_interest_refl}
use Rattle.coda_coherence.proofs.Telling.{changes_tell}

abbrev root : Fid
root = root_of 7

abbrev other : ReplicaEntry
other = Resolved map.empty no_lasts

-- the root was there, and isn't any more
was_there : node_at [] root ≡ Some fresh_root
was_there = get_here fids_total map.empty root fresh_root

is_gone : node_at (other ∷ []) root ≡ None
is_gone =
    get_nodes map.empty root ∙ ap (λ (o : Option Held). option_map (λ (held : Held). held.node) o)
    (map.get-empty fid_cmp root)

changed : changes [] other root ≡ true
changed = go (changes [] other root) refl
  where
    go : (b : Bool) → changes [] other root ≡ b → changes [] other root ≡ true
    go true e = e
    go false e = absurd (none-some fresh_root (sym is_gone ∙ (changes_tell.if_same [] other root e ∙ was_there)))

abbrev start : CachingCell
start = empty_caching_cell (λ client. 100)

abbrev linked : CachingCell
linked = cell_after changes start (LinkUp 1 1)

abbrev fetched : CachingCell
fetched = cell_after changes linked (Fetched 1 1 root None fresh_root)

may_fetch : MayFetch linked 1 1 root None fresh_root
may_fetch = record {
  linked = refl;
  may = (
    λ p. absurd (false≢true (sym (ap (λ (o : Option Node). is_there o) (map.get-empty fid_cmp root)) ∙ p.0)),
    (map.get-empty fid_cmp root, inr refl),
  );
  there = was_there;
  predates = record { not_created = refl; unbound = λ name fid is. refl };
  taken = λ none mentioned. absurd (false≢true mentioned);
}
  where
    is_there : Option Node → Bool
    is_there None = false
    is_there (Some node) = true

stale : IsChangedSince (other ∷ []) 0 root
stale = (0, omega arith, omega arith, λ same. none-some fresh_root (sym is_gone ∙ (same ∙ was_there)))

-- a copy that is stale, and of which no word is
module _ (cell : CachingCell) (history : cell.histories 1 7 ≡ other ∷ []) (copy : cell.copies 1 root ≡ Some (record { server = 1; position = 0 })) (clean : (cell.clients 1).volumes 7 ≡ (fetched.clients 1).volumes 7)
    (quiet : is_waiting (cell.callbacks 1 7) 1 root ≡ false) (none : IsBreakUnderWay cell.breaks 1 1 root → ⊥) where
  fails : CallbackFact cell → ⊥
  fails fact =
      let told = (fact 1 root (record { server = 1; position = 0 }) copy (ap (λ v. is_mentioned v root) clean)).is_told in
      ⊎_elim (λ (w : is_waiting (cell.callbacks 1 7) 1 root ≡ true). false≢true (sym quiet ∙ w)) none
      (told (subst (λ h. IsChangedSince h 0 root) (sym history) stale))

-- ---- a Break that is lost alone

abbrev respects : Callbacks
respects = promised no_callbacks 1 root

abbrev decided : CachingCell
decided = cell_after changes fetched (Decided 1 7 other)

abbrev posted : CachingCell
posted = cell_after changes decided (Posted 1 1 7 (root ∷ []))

never_waits : (f : Fid) → is_waiting respects 1 f ≡ false
never_waits f =
    waiting_promise no_callbacks 1 root 1 f ∙ off _ (is_waiting no_callbacks 1 f)
    (set.contains-empty interest_cmp (interest 1 f))
  where
    off : (a b : Bool) → b ≡ false → (not a && b) ≡ false
    off true b e = refl
    off false b e = e

promises_root : (f : Fid) → is_promised respects 1 f ≡ same_interest (interest 1 f) (interest 1 root)
promises_root f =
    promised_promise no_callbacks 1 root 1 f ∙ off (same_interest (interest 1 f) (interest 1 root))
    (is_promised no_callbacks 1 f) (set.contains-empty interest_cmp (interest 1 f))
  where
    off : (a b : Bool) → b ≡ false → (a || b) ≡ a
    off true b e = refl
    off false b e = e

alone : (f : Fid) → IsStrictlySortedBy fid_cmp (f ∷ [])
unfolding IsStrictlySortedBy
alone f = (tt, tt)

outbox : IsOutbox (broken_where respects (changes [] other)) 1 (root ∷ [])
outbox =
    record {
      increasing = alone root;
      exact = λ f. sym (waiting_broken respects (changes [] other) 1 f
          ∙ (λ i. never_waits f i || (promises_root f i && changes [] other f)) ∙ at f
          (same_interest (interest 1 f) (interest 1 root)) refl);
    }
  where
    at : (f : Fid) (b : Bool) → same_interest (interest 1 f) (interest 1 root) ≡ b
        → (b && changes [] other f) ≡ names (root ∷ []) f
    at f true e = let one = same_interest_is (interest 1 f) (interest 1 root) e in let same : f ≡ root = λ i. (one i).fid in
        ap (changes [] other) same ∙ changed ∙ sym
        (ap (λ x. same_fid root x || false) same ∙ ap (λ b. b || false) (same_fid_refl root))
    at f false e =
        sym (ap (λ b. b || false)
        (fid_other root f (λ h. true≢false (sym (same_interest_refl (interest 1 root))
        ∙ (ap (λ x. same_interest (interest 1 x) (interest 1 root)) h ∙ e)))))

and_never : (a : Bool) → (a && false) ≡ false
and_never true = refl
and_never false = refl

lossy : (cell : CachingCell) × (number : ℕ) × IsReachedCell cell × (CallbackFact (lost_with_link_up cell number) → ⊥)
lossy = (
  posted,
  1,
  record {
    events = LinkUp 1 1 ∷ Fetched 1 1 root None fresh_root ∷ Decided 1 7 other ∷ Posted 1 1 7 (root ∷ []) ∷ [];
    runs = (tt, (may_fetch, (tt, ((refl, outbox), refl))));
  },
  fails (lost_with_link_up posted 1) refl refl refl
      (waiting_collected (broken_where respects (changes [] other)) 1 1 root ∙ and_never _) none,
)
  where
    none : IsBreakUnderWay (lost_with_link_up posted 1).breaks 1 1 root → ⊥
    none u = at (u.number == 1) u.posted
      where
        at : (b : Bool) → cond b None (cond b (Some (record { server = 1; client = 1; volume = 7; fids = root ∷ []; delivered = false })) None) ≡ Some u.letter → ⊥
        at true e = none-some u.letter e
        at false e = none-some u.letter e

-- ---- a promise that stays

sparing : (cell : CachingCell) × (client : ℕ) × (server : ℕ) × (volume : ℕ) × (e : ReplicaEntry) × IsReachedCell cell × (CallbackFact (decided_sparing cell client server volume e) → ⊥)
sparing = (
  fetched,
  1,
  1,
  7,
  other,
  record { events = LinkUp 1 1 ∷ Fetched 1 1 root None fresh_root ∷ []; runs = (tt, (may_fetch, refl)) },
  fails (decided_sparing fetched 1 1 7 other) refl refl refl
      (set.contains-union interests_total respects.outboxes
      (set.retain respects.promises (λ i. changes [] other i.fid && not (i.client == 1))) (interest 1 root)
      ∙ (λ i. never_waits root i || (set.contains-retain respects.promises
      (λ i. changes [] other i.fid && not (i.client == 1)) (interest 1 root)
      (alike (λ i. changes [] other i.fid && not (i.client == 1)) (interest 1 root)) ∙ last) i))
      (λ u. none-some u.letter u.posted),
)
  where
    last : (set.contains respects.promises (interest 1 root) && (changes [] other root && false)) ≡ false
    last =
        ap (λ b. set.contains respects.promises (interest 1 root) && b) (and_never (changes [] other root))
        ∙ and_never _

pub shortcuts_fail : ShortcutsFail
shortcuts_fail = record { lossy = lossy; sparing = sparing }
