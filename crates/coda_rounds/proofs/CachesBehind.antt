-- What calls make of a cache is the cache of the client behind them: also behind an operation.
use Rattle.std.proofs.Common.{◌≡◌, ℕ, ◌==◌, Bool, true, false, cond, not, ◌&&◌, List, Option, Some, None}
use Rattle.std.proofs.Common.{is_some, option_map, refl, sym, ap, ◌∙◌, inl, inr}
use Rattle.std.proofs.lemmas.Bool.{or_parts, false≢true, false_from_ne_true, eqb-true, eq-eqb}
use Rattle.std.proofs.lemmas.List.Folds.{list_any-append}
use Rattle.std.specs.List.{filter}
use Rattle.std.specs.FinMap as map
use Rattle.coda_fid.specs.Fid.{fid_cmp, same_fid}
use Rattle.coda_fid.specs.Op.{fids_of}
use Rattle.coda_fid.specs.declared.fid.Fid.{Fid}
use Rattle.coda_fid.specs.declared.op.Record.{Record}
use Rattle.coda_fid.proofs.Fids.{fids_total, exact_fids}
use Rattle.coda_tree.specs.declared.node.Node.{Node}
use Rattle.coda_tree.specs.Volume.{has}
use Rattle.coda_walk.specs.Going.{is_listed}
use Rattle.coda_cache.specs.declared.hold.Hold.{Hold}
use Rattle.coda_plain.specs.Deeds.{Operated}
use Rattle.coda_cache.specs.Room.{evicted_between, evicted_after}
use Rattle.coda_cache.specs.State.{CacheState, empty_cache, parent_held}
use Rattle.coda_cache.specs.Steps.{set_dirty, dirty_where, dirty_in, pinned_in, new_node, taken_out, taken_from, except_all}
use Rattle.coda_cache.proofs.Removed.{filter_alike, filter_twice}
use Rattle.coda_cache.proofs.Taken.{taken_at}
use Rattle.coda_cache.proofs.Written.{get_each}
use Rattle.coda_venus.specs.Accepting.{is_mentioned}
use Rattle.coda_venus.specs.Caching.{marked_by, above_taken, touched_by, performed_in, AreMentioned}
use Rattle.coda_venus.specs.Held.{Held}
use Rattle.coda_venus.specs.History.{MayEnterAll}
use Rattle.coda_venus.specs.Operating.{MayBegin}
use Rattle.coda_venus.specs.Rounds.{RoundStep, Performed, beside_after, entries_of_step, serving_after}
use Rattle.coda_venus.specs.Serving.{ServingClient, hold_of, cache_of, used_new, once_operated, goes_for}
use Rattle.coda_venus.specs.State.{ClientState, volume_after}
use Rattle.coda_venus.proofs.Cached.{mutated_size}
use Rattle.coda_venus.proofs.DropsFirst.{held_but, performed_dropped}
use Rattle.coda_rounds.specs.Caches.{mentioned_there, IsUncopied, CachesFollowClients}
use Rattle.coda_rounds.specs.Entering.{StandWhereMade, IsInOrder, new_serving_client}
use Rattle.coda_rounds.proofs.Caches.{cache_same, fetched, uses_left}
use Rattle.coda_rounds.proofs.CachesOperated as behind
use Rattle.coda_rounds.proofs.CachesOperated.{marked_at, marks_keep, makes_mentions}
use Rattle.coda_venus.proofs.ServedAlike.{held_at}
use Rattle.coda_venus.proofs.UsesAlike.{uses_alike}

module _ (s : ServingClient) (gone : List Fid) (volume : ℕ) (rec : Record) (order : IsInOrder s) (stand : StandWhereMade s volume) (begin : MayBegin s.client.held.nodes rec.op) (may : MayEnterAll s.client (entries_of_step (Performed gone volume rec))) (uncopied : IsUncopied s rec.op) where
  abbrev step : RoundStep
  step = Performed gone volume rec

  abbrev after : Held
  after = behind.after s volume rec order stand

  abbrev m : CacheState
  m = behind.m s volume rec order stand

  abbrev then_is : ServingClient
  then_is = record { client = record (behind.operated s volume rec order stand) { held = held_but after gone }; beside = beside_after s.beside step }

  abbrev test : Fid → Bool
  test f = mentioned_there then_is.client f

  abbrev touched : List Fid
  touched = touched_by (cache_of s) rec.op

  abbrev noted : CacheState
  noted = marked_by test m touched

  abbrev performed : CacheState
  performed = performed_in test (cache_of s) gone s.client.number rec

  nodes_there : (q : Fid) (x : Hold) → map.get m.holds q ≡ Some x → has after.nodes q ≡ true
  nodes_there q x at = ap (λ n. has n q) (sym (behind.nodes_are s volume rec order stand begin))
      ∙ sym ((behind.agree_after s volume rec order stand begin).held q) ∙ ap is_some at

  nodes_free : (q : Fid) → map.get m.holds q ≡ None → has after.nodes q ≡ false
  nodes_free q at = ap (λ n. has n q) (sym (behind.nodes_are s volume rec order stand begin))
      ∙ sym ((behind.agree_after s volume rec order stand begin).held q) ∙ ap is_some at

  parent_is : (q : Fid) (x : Hold) → is_listed gone q ≡ false → map.get m.holds q ≡ Some x
      → map.get (taken_from after.parents gone) q ≡ x.parent
  parent_is q x out at = taken_at after.parents gone q ∙ ap (λ b. cond b None (map.get after.parents q)) out
      ∙ sym (behind.parents_are s volume rec order stand begin q) ∙ ap parent_held at

  from_is : (q : Fid) (x : Hold) → is_listed gone q ≡ false → map.get m.holds q ≡ Some x
      → then_is.beside.copies q ≡ x.from
  from_is q x out at = ap (λ b. cond b None (s.beside.copies q)) out ∙ elim (behind.whence s volume rec order stand begin q x at) [
    | inl made ↦ uncopied made.0 q made.1 ∙ sym made.2
    | inr was ↦ sym was.0
  ]

  dirty_is : (q : Fid) (x : Hold) → map.get m.holds q ≡ Some x → is_listed touched q ≡ false → test q ≡ x.dirty
  dirty_is q x at off =
      let parts = or_parts (is_listed (fids_of rec.op) q) (is_listed (above_taken (cache_of s) (taken_out rec.op)) q)
      (sym (list_any-append (λ g. same_fid g q) (fids_of rec.op) (above_taken (cache_of s) (taken_out rec.op))) ∙ off) in
      elim (behind.whence s volume rec order stand begin q x at) [
        | inl made ↦ absurd (false≢true (sym parts.0 ∙ makes_mentions rec.op made.0 q made.1))
        | inr was ↦ sym (was.1 parts.0 ∙ behind.same_mention s volume rec order stand q off)
      ]

  -- how a node is held that stays
  hold_is : (q : Fid) (x : Hold) → is_listed gone q ≡ false → map.get m.holds q ≡ Some x
      → hold_of then_is q ≡ cond (is_listed touched q) (set_dirty (test q) x) x
  hold_is q x out at = by (is_listed touched q) refl
    where
      by : (b : Bool) → is_listed touched q ≡ b → hold_of then_is q ≡ cond b (set_dirty (test q) x) x
      by true on = λ i. record { parent = parent_is q x out at i; from = from_is q x out at i; dirty = test q }
      by false off = λ i. record { parent = parent_is q x out at i; from = from_is q x out at i; dirty = dirty_is q x at off i }

  held_then : (q : Fid) → is_listed gone q ≡ false
      → option_map (λ (n : Node). hold_of then_is q) (map.get after.nodes q) ≡ map.get noted.holds q
  held_then q out = by (map.get m.holds q) refl ∙ sym (marked_at test m touched q)
    where
      some : (o : Option Node) (h : Hold) → is_some o ≡ true → option_map (λ (n : Node). hold_of then_is q) o ≡ Some (hold_of then_is q)
      some None h e = absurd (false≢true e)
      some (Some n) h e = refl

      none : (o : Option Node) → is_some o ≡ false → option_map (λ (n : Node). hold_of then_is q) o ≡ None
      none None e = refl
      none (Some n) e = absurd (false≢true (sym e))

      by : (o : Option Hold) → map.get m.holds q ≡ o → option_map (λ (n : Node). hold_of then_is q) (map.get after.nodes q)
          ≡ option_map (λ (hold : Hold). cond (is_listed touched q) (set_dirty (test q) hold) hold) (map.get m.holds q)
      by None at = none (map.get after.nodes q) (nodes_free q at)
          ∙ sym (ap (option_map (λ (hold : Hold). cond (is_listed touched q) (set_dirty (test q) hold) hold)) at)
      by (Some x) at = some (map.get after.nodes q) x (nodes_there q x at) ∙ ap (λ h. Some h) (hold_is q x out at)
          ∙ sym (ap (option_map (λ (hold : Hold). cond (is_listed touched q) (set_dirty (test q) hold) hold)) at)

  holds_are : (cache_of then_is).holds ≡ performed.holds
  holds_are = map.same_map fids_total exact_fids _ _ (λ q.
      held_at then_is q ∙ ap (option_map (λ (n : Node). hold_of then_is q)) (taken_at after.nodes gone q)
      ∙ by q (is_listed gone q) refl ∙ sym (taken_at noted.holds gone q))
    where
      by : (q : Fid) (b : Bool) → is_listed gone q ≡ b
          → option_map (λ (n : Node). hold_of then_is q) (cond b None (map.get after.nodes q)) ≡ cond b None (map.get noted.holds q)
      by q true on = refl
      by q false out = held_then q out

  uses_are : filter (λ g. has (taken_from after.nodes gone) g) (used_new s.beside.uses (new_node rec.op)) ≡ except_all noted.recency gone
  uses_are =
      filter_alike (λ g. has (taken_from after.nodes gone) g) (λ g. has after.nodes g && not (is_listed gone g)) (used_new s.beside.uses (new_node rec.op)) same
      ∙ sym (filter_twice (λ g. has after.nodes g) (λ g. not (is_listed gone g)) (λ g. has after.nodes g && not (is_listed gone g)) (used_new s.beside.uses (new_node rec.op)) (λ g. refl))
      ∙ ap (filter (λ g. not (is_listed gone g))) (behind.uses_are s volume rec order stand begin ∙ sym (ap (λ (y : CacheState). y.recency) (marks_keep test m touched)))
      ∙ sym (uses_left noted.recency gone)
    where
      left : (b : Bool) (o : Option Node) → is_some (cond b None o) ≡ (is_some o && not b)
      left true None = refl
      left true (Some n) = refl
      left false None = refl
      left false (Some n) = refl

      same : (g : Fid) → has (taken_from after.nodes gone) g ≡ (has after.nodes g && not (is_listed gone g))
      same g = ap is_some (taken_at after.nodes gone g) ∙ left (is_listed gone g) (map.get after.nodes g)

  operated : cache_of (serving_after s step) ≡ performed_in (mentioned_there (serving_after s step).client) (cache_of s) gone s.client.number rec
  operated =
      ap (λ (c : ClientState). cache_of (record { client = c; beside = beside_after s.beside step })) (performed_dropped s.client gone volume rec may begin)
      ∙ cache_same (cache_of then_is) performed
      (sym (ap (λ (y : CacheState). y.size) (marks_keep test m touched) ∙ mutated_size (cache_of s) s.client.number rec))
      (ap (λ n. taken_from n gone) (sym (ap (λ (y : CacheState). y.nodes) (marks_keep test m touched) ∙ behind.nodes_are s volume rec order stand begin)))
      holds_are uses_are
      (sym (ap (λ (y : CacheState). y.priorities) (marks_keep test m touched) ∙ behind.ranks_are s volume rec order stand begin))
      ∙ ap (λ (c : ClientState). performed_in (mentioned_there c) (cache_of s) gone s.client.number rec) (sym (performed_dropped s.client gone volume rec may begin))

-- ---- room for an operation

module _ (s : ServingClient) (volume : ℕ) (rec : Record) (mentioned : List Fid) (order : IsInOrder s) (stand : StandWhereMade s volume) (begin : MayBegin s.client.held.nodes rec.op) (uncopied : IsUncopied s rec.op) (within : (f : Fid) → is_listed (fids_of rec.op) f ≡ true → f.volume ≡ volume) (are : AreMentioned (volume_after (s.client.volumes volume) (Operated rec)) volume mentioned) where
  abbrev once : ServingClient
  once = once_operated s volume rec

  abbrev made : CacheState
  made = behind.m s volume rec order stand

  abbrev left : Held
  left = behind.after s volume rec order stand

  once_from : (q : Fid) (x : Hold) → map.get made.holds q ≡ Some x → s.beside.copies q ≡ x.from
  once_from q x at = elim (behind.whence s volume rec order stand begin q x at) [
    | inl new ↦ uncopied new.0 q new.1 ∙ sym new.2
    | inr was ↦ sym was.0
  ]

  once_parent : (q : Fid) (x : Hold) → map.get made.holds q ≡ Some x → map.get left.parents q ≡ x.parent
  once_parent q x at = sym (behind.parents_are s volume rec order stand begin q) ∙ ap parent_held at

  -- objects of other volumes aren't touched
  once_dirty : (q : Fid) (x : Hold) → map.get made.holds q ≡ Some x → (q.volume == volume) ≡ false
      → is_mentioned (s.client.volumes q.volume) q ≡ x.dirty
  once_dirty q x at other =
      let elsewhere : (is_listed (fids_of rec.op) q ≡ true → ⊥) = λ on. false≢true (sym other ∙ eq-eqb q.volume volume (within q on)) in
      elim (behind.whence s volume rec order stand begin q x at) [
        | inl new ↦ absurd (elsewhere (makes_mentions rec.op new.0 q new.1))
        | inr was ↦ sym (was.1 (false_from_ne_true (is_listed (fids_of rec.op) q) elsewhere))
      ]

  once_hold : (q : Fid) (x : Hold) → map.get made.holds q ≡ Some x → hold_of once q ≡ dirty_in volume mentioned q x
  once_hold q x at = by (q.volume == volume) refl
    where
      by : (b : Bool) → (q.volume == volume) ≡ b
          → (let h : Hold = record { parent = map.get left.parents q; from = s.beside.copies q; dirty = is_mentioned (cond b (volume_after (s.client.volumes volume) (Operated rec)) (s.client.volumes q.volume)) q } in h)
          ≡ cond b (dirty_where mentioned q x) x
      by true same = λ i. record { parent = once_parent q x at i; from = once_from q x at i; dirty = sym (are q (eqb-true q.volume volume same)) i }
      by false other = λ i. record { parent = once_parent q x at i; from = once_from q x at i; dirty = once_dirty q x at other i }

  once_there : (q : Fid) (o : Option Hold) → map.get made.holds q ≡ o → is_some (map.get left.nodes q) ≡ is_some o
  once_there q o at = ap (λ n. has n q) (sym (behind.nodes_are s volume rec order stand begin))
      ∙ sym ((behind.agree_after s volume rec order stand begin).held q) ∙ ap is_some at

  once_holds : (cache_of once).holds ≡ (pinned_in made volume mentioned).holds
  once_holds = map.same_map fids_total exact_fids _ _ (λ q.
      held_at once q ∙ by q (map.get made.holds q) refl (map.get left.nodes q) (once_there q (map.get made.holds q) refl)
      ∙ sym (get_each (dirty_in volume mentioned) made.holds q))
    where
      by : (q : Fid) (o : Option Hold) → map.get made.holds q ≡ o → (n : Option Node) → is_some n ≡ is_some o
          → option_map (λ (x : Node). hold_of once q) n ≡ option_map (dirty_in volume mentioned q) o
      by q None at None there = refl
      by q None at (Some n) there = absurd (false≢true (sym there))
      by q (Some x) at None there = absurd (false≢true there)
      by q (Some x) at (Some n) there = ap (λ h. Some h) (once_hold q x at)

  once_cache : cache_of once ≡ pinned_in made volume mentioned
  once_cache = cache_same (cache_of once) (pinned_in made volume mentioned)
      (sym (mutated_size (cache_of s) s.client.number rec))
      (sym (behind.nodes_are s volume rec order stand begin))
      once_holds (behind.uses_are s volume rec order stand begin) (sym (behind.ranks_are s volume rec order stand begin))

  room : (looked_up : List Fid) → goes_for s volume rec looked_up ≡ evicted_after (cache_of s) s.client.number volume rec mentioned looked_up
  unfolding evicted_after
  room looked_up = ap (λ n. evicted_between (cache_of s) n looked_up) once_cache

new_cache : (number blocks : ℕ) → cache_of (new_serving_client number blocks) ≡ empty_cache blocks
new_cache number blocks =
    let s = new_serving_client number blocks in
    cache_same (cache_of s) (empty_cache blocks) refl refl (map.same_map fids_total exact_fids _ _ (λ q.
    held_at s q ∙ ap (option_map (λ (n : Node). hold_of s q)) (map.get-empty fid_cmp q) ∙ sym (map.get-empty fid_cmp q))) refl refl

pub caches_follow_clients : CachesFollowClients
caches_follow_clients = record {
  first = λ number blocks. new_cache number blocks;
  looked = λ s fids. sym (uses_alike s fids);
  fetched = λ s gone fid node server orderly. fetched s gone fid node server orderly;
  operated = λ s gone volume rec order stand begin may uncopied. operated s gone volume rec order stand begin may uncopied;
  room = λ s volume rec looked_up mentioned order stand begin uncopied within are. room s volume rec mentioned order stand begin uncopied within are looked_up;
}
