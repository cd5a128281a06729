-- What an operation, with who goes for it, makes of a cache is the cache of the client behind it.
use Rattle.std.proofs.Common.{◌≡◌, ◌≢◌, ℕ, ◌==◌, Bool, true, false, cond, not, ◌||◌, ◌&&◌, List, [], ◌∷◌, ◌++◌, Option, Some, None}
use Rattle.std.proofs.Common.{is_some, option_map, refl, sym, ap, ◌∙◌, subst, inl, inr, ◌⊎◌, ⊎_elim}
use Rattle.std.proofs.lemmas.Bool.{or_left, or_right, or_parts, false≢true, eqb-true}
use Rattle.std.proofs.lemmas.List.Folds.{list_any-append}
use Rattle.std.proofs.lemmas.Option.{none-some, same_Some}
use Rattle.std.specs.List.{filter}
use Rattle.std.specs.FinMap as map
use Rattle.coda_fid.specs.Fid.{same_fid}
use Rattle.coda_fid.specs.Op.{fids_of}
use Rattle.coda_fid.specs.declared.fid.Fid.{Fid}
use Rattle.coda_fid.specs.declared.op.Op.{Op}
use Rattle.coda_fid.specs.declared.op.Op.TheVariants.{Create, Mkdir, Symlink, Store, Setattr, Remove, Rmdir, Rename}
use Rattle.coda_fid.specs.declared.op.Record.{Record}
use Rattle.coda_fid.proofs.Fids.{fids_total, exact_fids, same_fid_refl}
use Rattle.coda_tree.specs.declared.node.Node.{Node}
use Rattle.coda_tree.specs.Volume.{has}
use Rattle.coda_tree.proofs.Keyed.{at_altered, off_altered}
use Rattle.coda_tree.proofs.Order.{fid_cases}
use Rattle.coda_cancel.specs.Cancel.{add}
use Rattle.coda_cancel.specs.Dropping.{mentioning}
use Rattle.coda_cancel.proofs.Keys.{fid_true, fid_other}
use Rattle.coda_certify.specs.Replay.{applied}
use Rattle.coda_cml.specs.Steady.{any_record, makes_in}
use Rattle.coda_plain.specs.Deeds.{Operated}
use Rattle.coda_walk.specs.Going.{is_listed}
use Rattle.coda_cache.specs.declared.hold.Hold.{Hold}
use Rattle.coda_cache.specs.Keeping.{Agree}
use Rattle.coda_cache.specs.Prospects.{hold_moved}
use Rattle.coda_cache.specs.State.{CacheState, parent_held, parent_of}
use Rattle.coda_cache.specs.Steps.{set_dirty, marked, new_node, taken_out, moved_node, taken_below, taken_from, moved_in, new_hold, under, mutated}
use Rattle.coda_cache.specs.Uses.{latest}
use Rattle.coda_cache.proofs.Foreseen.{noted, dirty_at, moved_at, put_at}
use Rattle.coda_cache.proofs.Operated.{applied_made, stays_there, agree_made, agree_changed, mutated_made, mutated_changed}
use Rattle.coda_cache.proofs.Parents.{parent_there}
use Rattle.coda_cache.proofs.Removed.{filter_alike, filter_twice}
use Rattle.coda_cache.proofs.Taken.{taken_at}
use Rattle.coda_record.specs.declared.entry.ClientEntry.TheVariants as entry
use Rattle.coda_venus.specs.Accepting.{is_mentioned}
use Rattle.coda_venus.specs.Caching.{marked_by, listed_in, above_taken, touched_by}
use Rattle.coda_venus.specs.Code.{held_in}
use Rattle.coda_venus.specs.Held.{Held, held_after_operation}
use Rattle.coda_venus.specs.Operating.{MayBegin}
use Rattle.coda_venus.specs.Serving.{ServingClient, hold_of, cache_of, used_new}
use Rattle.coda_venus.specs.State.{ClientState, ClientVolume, client_after, volume_after}
use Rattle.coda_venus.proofs.Cached.{mutated_held}
use Rattle.coda_rounds.specs.Entering.{StandWhereMade, IsInOrder}
use Rattle.coda_rounds.proofs.Caches.{latest_passes, uses_left}
use Rattle.coda_rounds.proofs.InOrder.{in_order_cache}
use Rattle.coda_venus.proofs.ServedAlike.{held_at}
use Rattle.coda_rounds.proofs.Items.{parent_at}
use Rattle.coda_rounds.proofs.LogMentions.{mentioned_still, mentioned_back}

-- ---- marks

pub marked_at : (test : Fid → Bool) (c : CacheState) (fids : List Fid) (q : Fid) → map.get (marked_by test c fids).holds q
    ≡ option_map (λ (hold : Hold). cond (is_listed fids q) (set_dirty (test q) hold) hold) (map.get c.holds q)
marked_at test c [] q = same (map.get c.holds q)
  where
    same : (o : Option Hold) → o ≡ option_map (λ (hold : Hold). hold) o
    same None = refl
    same (Some hold) = refl
marked_at test c (f ∷ fids) q = marked_at test (marked c f (test f)) fids q ∙ elim (fid_cases q f) [
  | inl at ↦ ap (λ x. option_map (λ (hold : Hold). cond (is_listed fids q) (set_dirty (test q) hold) hold) (map.get (marked c f (test f)).holds x)) at
      ∙ ap (option_map (λ (hold : Hold). cond (is_listed fids q) (set_dirty (test q) hold) hold)) (at_altered c.holds f (set_dirty (test f)))
      ∙ twice (is_listed fids q) at (map.get c.holds f)
      ∙ (λ i. option_map (λ (hold : Hold). cond ((sym (ap (same_fid f) at ∙ same_fid_refl f)) i || is_listed fids q) (set_dirty (test q) hold) hold) (map.get c.holds (sym at i)))
  | inr off ↦ ap (option_map (λ (hold : Hold). cond (is_listed fids q) (set_dirty (test q) hold) hold)) (off_altered c.holds f (set_dirty (test f)) q off)
      ∙ (λ i. option_map (λ (hold : Hold). cond ((sym (fid_other f q (λ same. off (sym same)))) i || is_listed fids q) (set_dirty (test q) hold) hold) (map.get c.holds q))
]
  where
    twice : (b : Bool) → q ≡ f → (o : Option Hold) → option_map (λ (hold : Hold). cond b (set_dirty (test q) hold) hold) (option_map (set_dirty (test f)) o) ≡ option_map (set_dirty (test q)) o
    twice b at None = refl
    twice true at (Some hold) = refl
    twice false at (Some hold) = λ i. Some (set_dirty (test (sym at i)) hold)

pub marks_keep : (test : Fid → Bool) (c : CacheState) (fids : List Fid)
    → marked_by test c fids ≡ record c { holds = (marked_by test c fids).holds }
marks_keep test c [] = refl
marks_keep test c (f ∷ fids) = marks_keep test (marked c f (test f)) fids

-- a hold under another directory is else as it was
moved_from : (moved : Option (Fid × Fid)) (q : Fid) (hold : Hold) → (hold_moved moved q hold).from ≡ hold.from
moved_from None q hold = refl
moved_from (Some m) q hold = elim (same_fid m.0 q) as (λ b. (cond b (under m.1 hold) hold).from ≡ hold.from) [ true ↦ refl | false ↦ refl ]

moved_dirty : (moved : Option (Fid × Fid)) (q : Fid) (hold : Hold) → (hold_moved moved q hold).dirty ≡ hold.dirty
moved_dirty None q hold = refl
moved_dirty (Some m) q hold = elim (same_fid m.0 q) as (λ b. (cond b (under m.1 hold) hold).dirty ≡ hold.dirty) [ true ↦ refl | false ↦ refl ]

both : (a b : Bool) → (a ≡ true → b ≡ true) → (b ≡ true → a ≡ true) → a ≡ b
both true b to from = sym (to refl)
both false true to from = from refl
both false false to from = refl

or_nothing : (b : Bool) → (b || false) ≡ b
or_nothing true = refl
or_nothing false = refl

-- what an operation takes out it mentions
takes_mentions : (op : Op) (f : Fid) → taken_out op ≡ Some f → is_listed (fids_of op) f ≡ true
takes_mentions (Create dir name fid mode owner) f out = absurd (none-some f out)
takes_mentions (Mkdir dir name fid mode owner) f out = absurd (none-some f out)
takes_mentions (Symlink dir name fid target mode owner) f out = absurd (none-some f out)
takes_mentions (Store fid pre content) f out = absurd (none-some f out)
takes_mentions (Setattr fid pre attrs) f out = absurd (none-some f out)
takes_mentions (Remove dir name fid pre) f out = or_right (same_fid dir f) _ (or_left (same_fid fid f) false (ap (same_fid fid) (sym (same_Some fid f out)) ∙ same_fid_refl fid))
takes_mentions (Rmdir dir name fid pre) f out = or_right (same_fid dir f) _ (or_left (same_fid fid f) false (ap (same_fid fid) (sym (same_Some fid f out)) ∙ same_fid_refl fid))
takes_mentions (Rename from_dir from to_dir to fid None) f out = absurd (none-some f out)
takes_mentions (Rename from_dir from to_dir to fid (Some over)) f out =
    or_right (same_fid from_dir f) _ (or_right (same_fid to_dir f) _ (or_right (same_fid fid f) _
    (or_left (same_fid over.fid f) false (ap (same_fid over.fid) (sym (same_Some over.fid f out)) ∙ same_fid_refl over.fid))))

-- and what it makes
pub makes_mentions : (op : Op) (dir f : Fid) → new_node op ≡ Some (dir, f) → is_listed (fids_of op) f ≡ true
makes_mentions (Create d name fid mode owner) dir f new = or_right (same_fid d f) _ (or_left (same_fid fid f) false (ap (same_fid fid) (sym (ap (λ (p : Fid × Fid). p.1) (same_Some (d, fid) (dir, f) new))) ∙ same_fid_refl fid))
makes_mentions (Mkdir d name fid mode owner) dir f new = or_right (same_fid d f) _ (or_left (same_fid fid f) false (ap (same_fid fid) (sym (ap (λ (p : Fid × Fid). p.1) (same_Some (d, fid) (dir, f) new))) ∙ same_fid_refl fid))
makes_mentions (Symlink d name fid target mode owner) dir f new = or_right (same_fid d f) _ (or_left (same_fid fid f) false (ap (same_fid fid) (sym (ap (λ (p : Fid × Fid). p.1) (same_Some (d, fid) (dir, f) new))) ∙ same_fid_refl fid))
makes_mentions (Store fid pre content) dir f new = absurd (none-some (dir, f) new)
makes_mentions (Setattr fid pre attrs) dir f new = absurd (none-some (dir, f) new)
makes_mentions (Remove d name fid pre) dir f new = absurd (none-some (dir, f) new)
makes_mentions (Rmdir d name fid pre) dir f new = absurd (none-some (dir, f) new)
makes_mentions (Rename from_dir from to_dir to fid over) dir f new = absurd (none-some (dir, f) new)

-- ---- a client in order

module _ (s : ServingClient) (volume : ℕ) (rec : Record) (order : IsInOrder s) (stand : StandWhereMade s volume) where
  abbrev c : CacheState
  c = cache_of s

  abbrev pub after : Held
  after = held_after_operation s.client.held s.client.number rec

  abbrev pub m : CacheState
  m = mutated c s.client.number rec

  abbrev pub operated : ClientState
  operated = client_after s.client (entry.Op volume rec)

  agree : Agree c.nodes c.holds c.recency
  agree = let k = in_order_cache s order in record { held = k.held; used = k.used }

  held_is : held_in c ≡ s.client.held
  held_is = λ i. record { nodes = s.client.held.nodes; parents = (map.same_map fids_total exact_fids _ _ (λ q. parent_there c.holds q ∙ by q (map.get s.client.held.nodes q) refl)) i }
    where
      by : (q : Fid) (o : Option Node) → map.get s.client.held.nodes q ≡ o → parent_of c q ≡ map.get s.client.held.parents q
      by q None e = ap parent_held (held_at s q) ∙ ap (λ x. parent_held (option_map (λ (n : Node). hold_of s q) x)) e ∙ orphan (map.get s.client.held.parents q) refl
        where
          orphan : (o : Option Fid) → map.get s.client.held.parents q ≡ o → None ≡ o
          orphan None at = refl
          orphan (Some p) at = absurd (false≢true (sym (ap is_some e) ∙ order.orderly.cached q p at))
      by q (Some node) e = parent_at s q (ap is_some e)

  -- what the log says of what the operation doesn't touch
  pub same_mention : (q : Fid) → is_listed (touched_by c rec.op) q ≡ false
      → is_mentioned (s.client.volumes q.volume) q ≡ is_mentioned (operated.volumes q.volume) q
  same_mention q off = by (q.volume == volume) refl
    where
      was : ClientVolume
      was = s.client.volumes volume

      parts : (is_listed (fids_of rec.op) q ≡ false) × (is_listed (above_taken c (taken_out rec.op)) q ≡ false)
      parts = or_parts (is_listed (fids_of rec.op) q) (is_listed (above_taken c (taken_out rec.op)) q)
          (sym (list_any-append (λ g. same_fid g q) (fids_of rec.op) (above_taken c (taken_out rec.op))) ∙ off)

      above : (f : Fid) → taken_out rec.op ≡ Some f → map.get s.client.held.parents f ≡ Some q → ⊥
      above f out at = false≢true (sym parts.1 ∙ ap (λ o. is_listed (above_taken c o) q) out
          ∙ ap (λ o. is_listed (listed_in o) q) (parent_at s f (order.orderly.cached f q at) ∙ at)
          ∙ or_left (same_fid q q) false (same_fid_refl q))

      still : any_record (mentioning q) was.log.records ≡ true → any_record (mentioning q) (add was.log.records rec) ≡ true
      still h = elim (mentioned_still q was.log.records rec h) [
        | inl on ↦ on
        | inr undone ↦ absurd (⊎_elim
            (λ (same : q ≡ undone.0). false≢true (sym parts.0 ∙ ap (is_listed (fids_of rec.op)) same ∙ takes_mentions rec.op undone.0 undone.1))
            (λ (makes : any_record (makes_in q undone.0) was.log.records ≡ true). above undone.0 undone.1 (stand q undone.0 undone.2 makes))
            undone.3)
      ]

      records : any_record (mentioning q) was.log.records ≡ any_record (mentioning q) (add was.log.records rec)
      records = both _ _ still (mentioned_back q was.log.records rec parts.0)

      by : (b : Bool) → (q.volume == volume) ≡ b
          → is_mentioned (s.client.volumes q.volume) q ≡ is_mentioned (cond b (volume_after was (Operated rec)) (s.client.volumes q.volume)) q
      by false e = refl
      by true e = ap (λ v. is_mentioned (s.client.volumes v) q) (eqb-true q.volume volume e)
          ∙ ap (λ b. any_record (mentioning q) was.log.chunk || b) records

  module _ (begin : MayBegin s.client.held.nodes rec.op) where
    mutated_is : held_in m ≡ after
    mutated_is = mutated_held c s.client.number rec agree begin ∙ ap (λ h. held_after_operation h s.client.number rec) held_is

    pub nodes_are : m.nodes ≡ after.nodes
    nodes_are = ap (λ (h : Held). h.nodes) mutated_is

    pub parents_are : (q : Fid) → parent_of m q ≡ map.get after.parents q
    parents_are q = sym (parent_there m.holds q) ∙ ap (λ (h : Held). map.get h.parents q) mutated_is

    pub agree_after : Agree m.nodes m.holds m.recency
    agree_after = (elim (new_node rec.op) as (λ o. new_node rec.op ≡ o → Agree m.nodes m.holds m.recency) [
      | None ↦ λ is. subst (λ (x : CacheState). Agree x.nodes x.holds x.recency) (sym (mutated_changed c s.client.number rec is)) (agree_changed c s.client.number rec agree is)
      | Some d ↦ λ is. subst (λ (x : CacheState). Agree x.nodes x.holds x.recency) (sym (mutated_made c s.client.number rec d.0 d.1 is)) (agree_made c.nodes c.holds c.recency s.client.number rec d.0 d.1 agree is)
    ]) refl

    -- ---- how a node is held then

    -- it was made, or is from the server that it was from, and as dirty as it was, where it isn't mentioned
    abbrev Whence : Fid → Hold → Type 0
    Whence q x = ((dir : Fid) × (new_node rec.op ≡ Some (dir, q)) × (x.from ≡ None))
        ⊎ ((x.from ≡ s.beside.copies q) × (is_listed (fids_of rec.op) q ≡ false → x.dirty ≡ is_mentioned (s.client.volumes q.volume) q))

    was_held : (moved : Option (Fid × Fid)) (q : Fid) (x : Hold) (o : Option Node)
        → option_map (noted (fids_of rec.op) q) (option_map (hold_moved moved q) (option_map (λ (n : Node). hold_of s q) o)) ≡ Some x
        → (x.from ≡ s.beside.copies q) × (is_listed (fids_of rec.op) q ≡ false → x.dirty ≡ is_mentioned (s.client.volumes q.volume) q)
    was_held moved q x None e = absurd (none-some x e)
    was_held moved q x (Some node) e =
        let same = same_Some (noted (fids_of rec.op) q (hold_moved moved q (hold_of s q))) x e in (
          sym (ap (λ (h : Hold). h.from) same) ∙ moved_from moved q (hold_of s q),
          λ off. sym (ap (λ (h : Hold). h.dirty) same) ∙ ap (λ b. (hold_moved moved q (hold_of s q)).dirty || b) off
              ∙ or_nothing (hold_moved moved q (hold_of s q)).dirty ∙ moved_dirty moved q (hold_of s q),
        )

    unmoved : (q : Fid) (o : Option Hold) → option_map (hold_moved None q) o ≡ o
    unmoved q None = refl
    unmoved q (Some hold) = refl

    whence_made : (d : Fid × Fid) (q : Fid) (x : Hold) → new_node rec.op ≡ Some d → map.get m.holds q ≡ Some x → Whence q x
    whence_made d q x is at = cases (same_fid d.1 q) refl
        (sym (ap (λ (y : CacheState). map.get y.holds q) (mutated_made c s.client.number rec d.0 d.1 is)
        ∙ dirty_at (map.insert c.holds d.1 (new_hold d.0)) (fids_of rec.op) q
        ∙ ap (option_map (noted (fids_of rec.op) q)) (put_at c.holds d.1 (new_hold d.0) q)) ∙ at)
      where
        cases : (b : Bool) → same_fid d.1 q ≡ b
            → option_map (noted (fids_of rec.op) q) (cond b (Some (new_hold d.0)) (map.get c.holds q)) ≡ Some x → Whence q x
        cases true e h = inl (
          d.0,
          is ∙ ap (λ f. Some (d.0, f)) (fid_true d.1 q e),
          sym (ap (λ (y : Hold). y.from) (same_Some (noted (fids_of rec.op) q (new_hold d.0)) x h)),
        )
        cases false e h = inr (was_held None q x (map.get s.client.held.nodes q)
            (ap (option_map (noted (fids_of rec.op) q)) (unmoved q (option_map (λ (n : Node). hold_of s q) (map.get s.client.held.nodes q)) ∙ sym (held_at s q)) ∙ h))

    whence_changed : (q : Fid) (x : Hold) → new_node rec.op ≡ None → map.get m.holds q ≡ Some x → Whence q x
    whence_changed q x is at = cases (is_listed (taken_below c (taken_out rec.op)) q)
        (sym (ap (λ (y : CacheState). map.get y.holds q) (mutated_changed c s.client.number rec is)
        ∙ dirty_at (moved_in (moved_node rec.op) (taken_from c.holds (taken_below c (taken_out rec.op)))) (fids_of rec.op) q
        ∙ ap (option_map (noted (fids_of rec.op) q)) (moved_at (taken_from c.holds (taken_below c (taken_out rec.op))) (moved_node rec.op) q
        ∙ ap (option_map (hold_moved (moved_node rec.op) q)) (taken_at c.holds (taken_below c (taken_out rec.op)) q))) ∙ at)
      where
        cases : (b : Bool) → option_map (noted (fids_of rec.op) q) (option_map (hold_moved (moved_node rec.op) q) (cond b None (map.get c.holds q))) ≡ Some x → Whence q x
        cases true h = absurd (none-some x h)
        cases false h = inr (was_held (moved_node rec.op) q x (map.get s.client.held.nodes q)
            (ap (λ o. option_map (noted (fids_of rec.op) q) (option_map (hold_moved (moved_node rec.op) q) o)) (sym (held_at s q)) ∙ h))

    pub whence : (q : Fid) (x : Hold) → map.get m.holds q ≡ Some x → Whence q x
    whence q x at = (elim (new_node rec.op) as (λ o. new_node rec.op ≡ o → Whence q x) [
      | None ↦ λ is. whence_changed q x is at
      | Some d ↦ λ is. whence_made d q x is at
    ]) refl

    -- ---- the order of use

    abbrev there : Fid → Bool
    there g = has s.client.held.nodes g

    abbrev then_there : Fid → Bool
    then_there g = has after.nodes g

    uses_made : (d : Fid × Fid) → new_node rec.op ≡ Some d → filter then_there (latest s.beside.uses d.1) ≡ m.recency
    uses_made d is =
        latest_passes then_there d.1 s.beside.uses (ap (λ n. has n d.1) (sym nodes_are) ∙ at_made d.1 ∙ made.0)
        ∙ ap (λ l. l ++ d.1 ∷ []) (
        filter_twice then_there (λ g. not (same_fid g d.1)) one s.beside.uses (λ g. refl)
        ∙ filter_alike one two s.beside.uses same
        ∙ sym (filter_twice there (λ g. not (same_fid g d.1)) two s.beside.uses (λ g. refl)))
        ∙ sym (ap (λ (y : CacheState). y.recency) (mutated_made c s.client.number rec d.0 d.1 is))
      where
        made : (has (applied c.nodes s.client.number rec) d.1 ≡ true) × ((q : Fid) → q ≢ d.1 → has (applied c.nodes s.client.number rec) q ≡ has c.nodes q)
        made = applied_made c.nodes s.client.number rec d.0 d.1 is

        at_made : (q : Fid) → has m.nodes q ≡ has (applied c.nodes s.client.number rec) q
        at_made q = ap (λ (y : CacheState). has y.nodes q) (mutated_made c s.client.number rec d.0 d.1 is)

        one : Fid → Bool
        one g = then_there g && not (same_fid g d.1)

        two : Fid → Bool
        two g = there g && not (same_fid g d.1)

        same : (g : Fid) → one g ≡ two g
        same g = elim (fid_cases g d.1) [
          | inl at ↦ out (then_there g) (there g) (ap (λ x. not (same_fid x d.1)) at ∙ ap not (same_fid_refl d.1))
          | inr off ↦ ap (λ b. b && not (same_fid g d.1)) (ap (λ n. has n g) (sym nodes_are) ∙ at_made g ∙ made.1 g off)
        ]
          where
            no_more : (a : Bool) → (a && false) ≡ false
            no_more true = refl
            no_more false = refl

            out : (a b : Bool) → not (same_fid g d.1) ≡ false → (a && not (same_fid g d.1)) ≡ (b && not (same_fid g d.1))
            out a b e = ap (λ x. a && x) e ∙ no_more a ∙ sym (ap (λ x. b && x) e ∙ no_more b)

    uses_changed : new_node rec.op ≡ None → filter then_there s.beside.uses ≡ m.recency
    uses_changed is =
        filter_alike then_there (λ g. there g && not (is_listed gone g)) s.beside.uses same
        ∙ sym (uses_left (filter there s.beside.uses) gone ∙ filter_twice there (λ g. not (is_listed gone g)) (λ g. there g && not (is_listed gone g)) s.beside.uses (λ g. refl))
        ∙ sym (ap (λ (y : CacheState). y.recency) (mutated_changed c s.client.number rec is))
      where
        gone : List Fid
        gone = taken_below c (taken_out rec.op)

        left : (g : Fid) (b : Bool) → is_listed gone g ≡ b → is_some (cond b None (map.get (applied c.nodes s.client.number rec) g)) ≡ (there g && not b)
        left g true e = none (there g)
          where
            none : (a : Bool) → false ≡ (a && false)
            none true = refl
            none false = refl
        left g false e = stays_there c s.client.number rec agree is g e ∙ all (there g)
          where
            all : (a : Bool) → a ≡ (a && true)
            all true = refl
            all false = refl

        same : (g : Fid) → then_there g ≡ (there g && not (is_listed gone g))
        same g = ap (λ n. has n g) (sym nodes_are) ∙ ap (λ (y : CacheState). has y.nodes g) (mutated_changed c s.client.number rec is)
            ∙ ap is_some (taken_at (applied c.nodes s.client.number rec) gone g) ∙ left g (is_listed gone g) refl

    pub uses_are : filter then_there (used_new s.beside.uses (new_node rec.op)) ≡ m.recency
    uses_are = (elim (new_node rec.op) as (λ o. new_node rec.op ≡ o → filter then_there (used_new s.beside.uses o) ≡ m.recency) [
      | None ↦ λ is. uses_changed is
      | Some d ↦ λ is. uses_made d is
    ]) refl

    pub ranks_are : m.priorities ≡ map.empty
    ranks_are = (elim (new_node rec.op) as (λ o. new_node rec.op ≡ o → m.priorities ≡ map.empty) [
      | None ↦ λ is. ap (λ (y : CacheState). y.priorities) (mutated_changed c s.client.number rec is)
      | Some d ↦ λ is. ap (λ (y : CacheState). y.priorities) (mutated_made c s.client.number rec d.0 d.1 is)
    ]) refl
