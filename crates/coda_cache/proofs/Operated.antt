-- What an operation makes of a cache, and that its parts agree then.
use Rattle.std.proofs.Common.{◌≡◌, ◌≢◌, ℕ, zero, suc, Bool, true, false, cond, not, ◌&&◌, ◌||◌, List, [], ◌∷◌, Option, Some, None, is_some, refl, sym, ap, ◌∙◌, subst, inl, inr}
use Rattle.std.specs.FinMap as map
use Rattle.std.specs.List.{filter}
use Rattle.std.proofs.lemmas.Option.{none-some, same_Some}
use Rattle.std.proofs.lemmas.Bool.{both_ways}
use Rattle.coda_fid.specs.declared.fid.Fid.{Fid}
use Rattle.coda_fid.specs.declared.op.Op.{Op}
use Rattle.coda_fid.specs.declared.op.Record.{Record}
use Rattle.coda_fid.specs.declared.op.Op.TheVariants.{Create, Mkdir, Symlink, Store, Setattr, Remove, Rmdir, Rename}
use Rattle.coda_fid.specs.Fid.{fid_cmp, same_fid}
use Rattle.coda_fid.specs.Op.{fids_of}
use Rattle.coda_fid.proofs.Fids.{fids_total, exact_fids, same_fid_is, same_fid_refl}
use Rattle.coda_tree.specs.declared.node.Node.{Node}
use Rattle.coda_tree.specs.Bindings.{Name}
use Rattle.coda_tree.specs.Slots.{altered}
use Rattle.coda_tree.specs.Volume.{Nodes, has, edited_all, bound, unbound, bind_in, unbind_in, written, content_patch, attrs_patch}
use Rattle.coda_tree.proofs.Order.{fid_cases, get_here, get_else, gone_here, gone_else}
use Rattle.coda_tree.proofs.Changes.{has_changed}
use Rattle.coda_certify.specs.Replay.{effects, applied, MayApply}
use Rattle.coda_walk.specs.Going.{is_listed}
use Rattle.coda_cache.specs.declared.hold.Hold.{Hold}
use Rattle.coda_cache.specs.Uses.{latest}
use Rattle.std.specs.Option.{option_map_or}
use Rattle.coda_cache.specs.State.{CacheState, Holds, parent_of}
use Rattle.coda_cache.specs.Ways.{way_up, way_within, at_or_below}
use Rattle.coda_cache.specs.Keeping.{Agree}
use Rattle.coda_cache.specs.Steps.{new_node, taken_out, moved_node, taken_below, taken_from, except_all, held_new, moved_in, moved_under, all_dirty, dirtied, dropped, made_dirty, under, mutated, new_hold}
use Rattle.coda_cache.proofs.Agreeing.{agree_altered, latest_here, latest_else}
use Rattle.coda_cache.proofs.Taken.{taken_at, except_all_at}

-- ---- where nodes are after an operation

bound_has : (m : Nodes) (d : Fid) (name : Name) (f q : Fid) → has (bound m d name f) q ≡ has m q
bound_has m d name f q = has_changed m d (λ node. bind_in node name f) q

unbound_has : (m : Nodes) (d : Fid) (name : Name) (q : Fid) → has (unbound m d name) q ≡ has m q
unbound_has m d name q = has_changed m d (λ node. unbind_in node name) q

put_has : (m : Nodes) (f : Fid) (node : Node) → has (map.insert m f node) f ≡ true
put_has m f node = ap (λ (o : Option Node). is_some o) (get_here fids_total m f node)

put_else : (m : Nodes) (f : Fid) (node : Node) (q : Fid) → q ≢ f → has (map.insert m f node) q ≡ has m q
put_else m f node q apart = ap (λ (o : Option Node). is_some o) (get_else fids_total exact_fids m f node q apart)

out_has : (m : Nodes) (f : Fid) → has (map.remove m f) f ≡ false
out_has m f = ap (λ (o : Option Node). is_some o) (gone_here fids_total m f)

out_else : (m : Nodes) (f q : Fid) → q ≢ f → has (map.remove m f) q ≡ has m q
out_else m f q apart = ap (λ (o : Option Node). is_some o) (gone_else fids_total exact_fids m f q apart)

-- the node that is made is there, and else nodes are where they were
abbrev Made : Nodes → Nodes → Fid → Type 0
Made m n f = (has n f ≡ true) × ((q : Fid) → q ≢ f → has n q ≡ has m q)

addition : (m : Nodes) (dir : Fid) (name : Name) (f : Fid) (node : Node) → Made m (map.insert (bound m dir name f) f node) f
addition m dir name f node = (put_has (bound m dir name f) f node, λ q apart. put_else (bound m dir name f) f node q apart ∙ bound_has m dir name f q)

made_at : (m : Nodes) (time : ℕ) (client : ℕ) (number : ℕ) (op : Op) (p : Fid × Fid) → new_node op ≡ Some p → Made m (edited_all m (effects time (record { client = client; number = number }) op)) p.1
made_at m time client number (Create dir name fid mode owner) p is = subst (λ (x : Fid × Fid). Made m (edited_all m (effects time (record { client = client; number = number }) (Create dir name fid mode owner))) x.1) (same_Some _ p is) (addition m dir name fid _)
made_at m time client number (Mkdir dir name fid mode owner) p is = subst (λ (x : Fid × Fid). Made m (edited_all m (effects time (record { client = client; number = number }) (Mkdir dir name fid mode owner))) x.1) (same_Some _ p is) (addition m dir name fid _)
made_at m time client number (Symlink dir name fid target mode owner) p is = subst (λ (x : Fid × Fid). Made m (edited_all m (effects time (record { client = client; number = number }) (Symlink dir name fid target mode owner))) x.1) (same_Some _ p is) (addition m dir name fid _)
made_at m time client number (Store fid pre content) p is = absurd (none-some p is)
made_at m time client number (Setattr fid pre attrs) p is = absurd (none-some p is)
made_at m time client number (Remove dir name fid pre) p is = absurd (none-some p is)
made_at m time client number (Rmdir dir name fid pre) p is = absurd (none-some p is)
made_at m time client number (Rename from_dir from to_dir to fid over) p is = absurd (none-some p is)

-- nodes are where they were, but for the one that is taken out
abbrev Left : Nodes → Nodes → Option Fid → Type 0
Left m n taken = ((t : Fid) → taken ≡ Some t → has n t ≡ false) × ((q : Fid) → ((t : Fid) → taken ≡ Some t → q ≢ t) → has n q ≡ has m q)

all_left : (m n : Nodes) → ((q : Fid) → has n q ≡ has m q) → Left m n None
all_left m n same = (λ t is. absurd (none-some t is), λ q apart. same q)

one_out : (m n : Nodes) (f : Fid) → has n f ≡ false → ((q : Fid) → q ≢ f → has n q ≡ has m q) → Left m n (Some f)
one_out m n f out others = (λ t is. ap (has n) (sym (same_Some f t is)) ∙ out, λ q apart. others q (apart f refl))

removal : (m : Nodes) (dir : Fid) (name : Name) (f : Fid) → Left m (map.remove (unbound m dir name) f) (Some f)
removal m dir name f = one_out m _ f (out_has (unbound m dir name) f) (λ q apart. out_else (unbound m dir name) f q apart ∙ unbound_has m dir name q)

move : (m : Nodes) (from : Fid) (name : Name) (to : Fid) (new : Name) (f q : Fid) → has (bound (unbound m from name) to new f) q ≡ has m q
move m from name to new f q = bound_has (unbound m from name) to new f q ∙ unbound_has m from name q

left_at : (m : Nodes) (time : ℕ) (client : ℕ) (number : ℕ) (op : Op) → new_node op ≡ None → Left m (edited_all m (effects time (record { client = client; number = number }) op)) (taken_out op)
left_at m time client number (Create dir name fid mode owner) is = absurd (none-some (dir, fid) (sym is))
left_at m time client number (Mkdir dir name fid mode owner) is = absurd (none-some (dir, fid) (sym is))
left_at m time client number (Symlink dir name fid target mode owner) is = absurd (none-some (dir, fid) (sym is))
left_at m time client number (Store fid pre content) is = all_left m _ (λ q. has_changed m fid (written (content_patch content time) (record { client = client; number = number })) q)
left_at m time client number (Setattr fid pre attrs) is = all_left m _ (λ q. has_changed m fid (written (attrs_patch attrs) (record { client = client; number = number })) q)
left_at m time client number (Remove dir name fid pre) is = removal m dir name fid
left_at m time client number (Rmdir dir name fid pre) is = removal m dir name fid
left_at m time client number (Rename from_dir from to_dir to fid None) is = all_left m _ (λ q. move m from_dir from to_dir to fid q)
left_at m time client number (Rename from_dir from to_dir to fid (Some over)) is =
    one_out m _ over.fid (move (map.remove m over.fid) from_dir from to_dir to fid over.fid ∙ out_has m over.fid)
    (λ q apart. move (map.remove m over.fid) from_dir from to_dir to fid q ∙ out_else m over.fid q apart)

pub applied_made : (m : Nodes) (client : ℕ) (rec : Record) (dir fid : Fid) → new_node rec.op ≡ Some (dir, fid) → (has (applied m client rec) fid ≡ true) × ((q : Fid) → q ≢ fid → has (applied m client rec) q ≡ has m q)
unfolding applied
applied_made m client rec dir fid is = made_at m rec.time client rec.number rec.op (dir, fid) is

pub applied_left : (m : Nodes) (client : ℕ) (rec : Record) → new_node rec.op ≡ None → Left m (applied m client rec) (taken_out rec.op)
unfolding applied
applied_left m client rec is = left_at m rec.time client rec.number rec.op is

-- ---- the parts agree

pub agree_dirty : (nodes : Nodes) (holds : Holds) (recency fids : List Fid) → Agree nodes holds recency → Agree nodes (all_dirty holds fids) recency
agree_dirty nodes holds recency [] a = a
agree_dirty nodes holds recency (f ∷ fids) a = agree_dirty nodes (altered holds f made_dirty) recency fids (agree_altered nodes holds recency a f made_dirty)

agree_moved : (nodes : Nodes) (holds : Holds) (recency : List Fid) (moved : Option (Fid × Fid)) → Agree nodes holds recency → Agree nodes (moved_in moved holds) recency
agree_moved nodes holds recency None a = a
agree_moved nodes holds recency (Some p) a = agree_altered nodes holds recency a p.0 (under p.1)

-- after an operation that makes a node
pub agree_made : (nodes : Nodes) (holds : Holds) (recency : List Fid) (client : ℕ) (rec : Record) (dir fid : Fid) → Agree nodes holds recency → new_node rec.op ≡ Some (dir, fid) → Agree (applied nodes client rec) (all_dirty (map.insert holds fid (new_hold dir)) (fids_of rec.op)) (latest recency fid)
agree_made nodes holds recency client rec dir fid a is =
    let made = applied_made nodes client rec dir fid is in
    agree_dirty (applied nodes client rec) (map.insert holds fid (new_hold dir)) (latest recency fid) (fids_of rec.op) (record {
      held = λ q. elim (fid_cases q fid) [
        | inl same ↦ ap (λ (o : Option Hold). is_some o) (ap (map.get (map.insert holds fid (new_hold dir))) same ∙ get_here fids_total holds fid (new_hold dir)) ∙ sym (ap (has (applied nodes client rec)) same ∙ made.0)
        | inr apart ↦ ap (λ (o : Option Hold). is_some o) (get_else fids_total exact_fids holds fid (new_hold dir) q apart) ∙ a.held q ∙ sym (made.1 q apart)
      ];
      used = λ q. elim (fid_cases q fid) [
        | inl same ↦ ap (is_listed (latest recency fid)) same ∙ latest_here recency fid ∙ sym (ap (has (applied nodes client rec)) same ∙ made.0)
        | inr apart ↦ latest_else recency fid q apart ∙ a.used q ∙ sym (made.1 q apart)
      ];
    })

some_left : {X : Type 0} (b : Bool) (o : Option X) → is_some (cond b None o) ≡ (not b && is_some o)
some_left true o = refl
some_left false o = refl

-- a node is at or below itself
pub len_some : (holds : Holds) (f : Fid) → map.contains_key holds f ≡ true → (n : ℕ) × (map.len holds ≡ suc n)
len_some holds f is = elim (map.len holds) as (λ n. map.len holds ≡ n → (k : ℕ) × (map.len holds ≡ suc k)) [
  | zero ↦ λ none. absurd (both_ways _ (ap (λ (h : Holds). map.contains_key h f) (map.empty_of_len holds none) ∙ ap (λ (o : Option Hold). is_some o) (map.get-empty fid_cmp f)) is)
  | suc k ↦ λ some. (k, some)
] refl

pub self_on_way : (c : CacheState) (f : Fid) → map.contains_key c.holds f ≡ true → is_listed (way_up c f) f ≡ true
unfolding way_up
self_on_way c f is =
    let n = len_some c.holds f is in
    ap (λ k. is_listed (way_within c k f) f) n.1 ∙ ap (λ b. b || is_listed (option_map_or (λ p. way_within c n.0 p) (parent_of c f) []) f) (same_fid_refl f)

listed_filter : (test : Fid → Bool) (fids : List Fid) (f : Fid) → test f ≡ true → is_listed fids f ≡ true → is_listed (filter test fids) f ≡ true
listed_filter test [] f passes is = is
listed_filter test (g ∷ fids) f passes is = (elim (same_fid g f) as (λ b. same_fid g f ≡ b → (b || is_listed fids f) ≡ true → is_listed (cond (test g) (g ∷ filter test fids) (filter test fids)) f ≡ true) [
  | true ↦ λ same _. ap (λ b. is_listed (cond b (g ∷ filter test fids) (filter test fids)) f) (ap test (same_fid_is g f same) ∙ passes) ∙ ap (λ b. b || is_listed (filter test fids) f) same
  | false ↦ λ same rest. elim (test g) as (λ b. is_listed (cond b (g ∷ filter test fids) (filter test fids)) f ≡ true) [
    | true ↦ ap (λ b. b || is_listed (filter test fids) f) same ∙ listed_filter test fids f passes rest
    | false ↦ listed_filter test fids f passes rest
  ]
]) refl is

pub self_below : (c : CacheState) (f : Fid) → Agree c.nodes c.holds c.recency → has c.nodes f ≡ true → is_listed (at_or_below c f) f ≡ true
self_below c f a is = listed_filter (λ g. is_listed (way_up c g) f) c.recency f (self_on_way c f (a.held f ∙ is)) (a.used f ∙ is)

-- a node that doesn't go was there before the operation exactly where it is there after it
pub stays_there : (c : CacheState) (client : ℕ) (rec : Record) → Agree c.nodes c.holds c.recency → new_node rec.op ≡ None → (q : Fid) → is_listed (taken_below c (taken_out rec.op)) q ≡ false → has (applied c.nodes client rec) q ≡ has c.nodes q
stays_there c client rec a is q stays = go (taken_out rec.op) (applied_left c.nodes client rec is) stays
  where
    go : (taken : Option Fid) → Left c.nodes (applied c.nodes client rec) taken → is_listed (taken_below c taken) q ≡ false → has (applied c.nodes client rec) q ≡ has c.nodes q
    go None left stays = left.1 q (λ t is. absurd (none-some t is))
    go (Some t) left stays = elim (fid_cases q t) [
      | inl same ↦ ap (has (applied c.nodes client rec)) same ∙ left.0 t refl ∙ sym (ap (has c.nodes) same ∙ absent same)
      | inr apart ↦ left.1 q (λ u is same. apart (same ∙ sym (same_Some t u is)))
    ]
      where
        absent : q ≡ t → has c.nodes t ≡ false
        absent same = elim (has c.nodes t) as (λ b. has c.nodes t ≡ b → b ≡ false) [
          | true ↦ λ there. absurd (both_ways _ (ap (is_listed (at_or_below c t)) (sym same) ∙ stays) (self_below c t a there))
          | false ↦ λ _. refl
        ] refl

-- after an operation that makes none
pub agree_changed : (c : CacheState) (client : ℕ) (rec : Record) → Agree c.nodes c.holds c.recency → new_node rec.op ≡ None →
    Agree (taken_from (applied c.nodes client rec) (taken_below c (taken_out rec.op))) (all_dirty (moved_in (moved_node rec.op) (taken_from c.holds (taken_below c (taken_out rec.op)))) (fids_of rec.op))
    (except_all c.recency (taken_below c (taken_out rec.op)))
agree_changed c client rec a is =
    let gone = taken_below c (taken_out rec.op) in
    let n = applied c.nodes client rec in
    let at : (q : Fid) → has (taken_from n gone) q ≡ (not (is_listed gone q) && has n q) = λ q. ap (λ (o : Option Node). is_some o) (taken_at n gone q) ∙ some_left (is_listed gone q) (map.get n q) in
    let same : (q : Fid) → (not (is_listed gone q) && has n q) ≡ (not (is_listed gone q) && has c.nodes q) = λ q. (elim (is_listed gone q) as (λ b. is_listed gone q ≡ b → (not b && has n q) ≡ (not b && has c.nodes q)) [
      | true ↦ λ _. refl
      | false ↦ λ stays. stays_there c client rec a is q stays
    ]) refl in
    agree_dirty (taken_from n gone) (moved_in (moved_node rec.op) (taken_from c.holds gone)) (except_all c.recency gone) (fids_of rec.op)
    (agree_moved (taken_from n gone) (taken_from c.holds gone) (except_all c.recency gone) (moved_node rec.op) (record {
      held = λ q. ap (λ (o : Option Hold). is_some o) (taken_at c.holds gone q) ∙ some_left (is_listed gone q) (map.get c.holds q) ∙ ap (λ b. not (is_listed gone q) && b) (a.held q) ∙ sym (at q ∙ same q);
      used = λ q. except_all_at c.recency gone q ∙ ap (λ b. not (is_listed gone q) && b) (a.used q) ∙ sym (at q ∙ same q);
    }))

-- ---- what the operation makes of the cache

pub mutated_made : (c : CacheState) (client : ℕ) (rec : Record) (dir fid : Fid) → new_node rec.op ≡ Some (dir, fid) →
    mutated c client rec ≡ record { size = c.size; nodes = applied c.nodes client rec; holds = all_dirty (map.insert c.holds fid (new_hold dir)) (fids_of rec.op); recency = latest c.recency fid; priorities = c.priorities }
unfolding mutated
mutated_made c client rec dir fid is = go rec.op is (applied c.nodes client rec)
  where
    go : (op : Op) → new_node op ≡ Some (dir, fid) → (n : Nodes) →
        dirtied (moved_under (moved_node op) (held_new (new_node op) (dropped (record c { nodes = n }) (taken_below c (taken_out op))))) (fids_of op)
        ≡ record { size = c.size; nodes = n; holds = all_dirty (map.insert c.holds fid (new_hold dir)) (fids_of op); recency = latest c.recency fid; priorities = c.priorities }
    go (Create d name f mode owner) is n = ap (λ (o : Option (Fid × Fid)). dirtied (held_new o (record c { nodes = n })) (d ∷ f ∷ [])) is
    go (Mkdir d name f mode owner) is n = ap (λ (o : Option (Fid × Fid)). dirtied (held_new o (record c { nodes = n })) (d ∷ f ∷ [])) is
    go (Symlink d name f target mode owner) is n = ap (λ (o : Option (Fid × Fid)). dirtied (held_new o (record c { nodes = n })) (d ∷ f ∷ [])) is
    go (Store f pre content) is n = absurd (none-some (dir, fid) is)
    go (Setattr f pre attrs) is n = absurd (none-some (dir, fid) is)
    go (Remove d name f pre) is n = absurd (none-some (dir, fid) is)
    go (Rmdir d name f pre) is n = absurd (none-some (dir, fid) is)
    go (Rename from_dir from to_dir to f over) is n = absurd (none-some (dir, fid) is)

pub mutated_changed : (c : CacheState) (client : ℕ) (rec : Record) → new_node rec.op ≡ None →
    mutated c client rec ≡ record {
      size = c.size;
      nodes = taken_from (applied c.nodes client rec) (taken_below c (taken_out rec.op));
      holds = all_dirty (moved_in (moved_node rec.op) (taken_from c.holds (taken_below c (taken_out rec.op)))) (fids_of rec.op);
      recency = except_all c.recency (taken_below c (taken_out rec.op));
      priorities = c.priorities;
    }
unfolding mutated
mutated_changed c client rec is = ap (λ (o : Option (Fid × Fid)). dirtied (moved_under (moved_node rec.op) (held_new o (dropped (record c { nodes = applied c.nodes client rec }) (taken_below c (taken_out rec.op))))) (fids_of rec.op)) is

-- ---- what is asked for

-- a fid at which an operation makes a node is not held
pub new_free : (nodes : Nodes) (holds : Holds) (recency : List Fid) (op : Op) (dir fid : Fid) → Agree nodes holds recency → new_node op ≡ Some (dir, fid) → {now : Nodes} → nodes ≡ now → MayApply now op → map.get holds fid ≡ None
new_free nodes holds recency op dir fid a is {now} same may = unheld (map.get holds fid) (a.held fid ∙ ap (λ (o : Option Node). is_some o) (ap (λ (m : Nodes). map.get m fid) same ∙ free op is may))
  where
    unheld : (o : Option Hold) → is_some o ≡ false → o ≡ None
    unheld None h = refl
    unheld (Some hold) h = absurd (both_ways _ h refl)

    free : (op : Op) → new_node op ≡ Some (dir, fid) → MayApply now op → map.get now fid ≡ None
    free (Create d name f mode owner) is may = ap (λ (p : Fid × Fid). map.get now p.1) (sym (same_Some _ _ is)) ∙ may.fid_free
    free (Mkdir d name f mode owner) is may = ap (λ (p : Fid × Fid). map.get now p.1) (sym (same_Some _ _ is)) ∙ may.fid_free
    free (Symlink d name f target mode owner) is may = ap (λ (p : Fid × Fid). map.get now p.1) (sym (same_Some _ _ is)) ∙ may.fid_free
    free (Store f pre content) is may = absurd (none-some (dir, fid) is)
    free (Setattr f pre attrs) is may = absurd (none-some (dir, fid) is)
    free (Remove d name f pre) is may = absurd (none-some (dir, fid) is)
    free (Rmdir d name f pre) is may = absurd (none-some (dir, fid) is)
    free (Rename from_dir from to_dir to f over) is may = absurd (none-some (dir, fid) is)
