-- What happens to the replicas of a volume keeps them trees of one kind.
use Rattle.std.proofs.Common.{◌≡◌, ◌≢◌, ℕ, Bool, true, false, cond, List, [], ◌∷◌, Option, Some, None, is_some, refl}
use Rattle.std.proofs.Common.{sym, ap, ◌∙◌, subst, inl, inr, ⊎_elim}
use Rattle.std.specs.FinMap as finmap
use Rattle.std.specs.List.{AllByRecursion}
use Rattle.std.proofs.lemmas.Bool.{true≢false, cases_eq}
use Rattle.coda_fid.specs.declared.fid.Fid.{Fid}
use Rattle.coda_fid.specs.declared.op.Record.{Record}
use Rattle.coda_fid.proofs.Fids.{same_fid_is, same_fid_refl}
use Rattle.coda_tree.specs.Bindings.{Name}
use Rattle.coda_tree.specs.Volume.{is_at_fid}
use Rattle.coda_reslog.specs.declared.change.Held.{Held}
use Rattle.coda_resolve.specs.Copies.{Copies}
use Rattle.coda_resolve.specs.Settled.{HasKind, is_dir}
use Rattle.coda_resolve.specs.Resolution.{Objects, Replicas, copies_at, IsTakenUp, at_root, below, IsTreeView, has_in}
use Rattle.coda_resolve.specs.Placement.{IsIn, AreTreesOfOneKind}
use Rattle.coda_resolve.specs.Trees.{KeepsOwn, marked_there, further, IsInstalled}
use Rattle.coda_resolve.proofs.Logged.{in_map}
use Rattle.coda_resolve.proofs.There.{Binds, fate_bound}
use Rattle.coda_resolve.proofs.Apart.{some_view}
use Rattle.coda_resolve.proofs.Trees.{tree_after}
use Rattle.coda_resolve.proofs.After.{all_copies, all_trees, kind_after}
use Rattle.coda_lineage.specs.Deeds.{makes}
use Rattle.coda_lineage.specs.Repairs.{IsRepairedAt}
use Rattle.coda_lineage.specs.Lineage.{Group, held_at, AreAmong, IsDecided, IsResolved, IsRepaired}
use Rattle.coda_lineage.proofs.Booleans.{or_first, or_second}
use Rattle.coda_lineage.proofs.Deciding.{DecidedAt, absent as none_left, came, stayed, decided_tree, decided_at}
use Rattle.coda_lineage.proofs.Sparing.{spared_kind}
use Rattle.coda_lineage.proofs.RepairedTrees.{RepairedAt, put, went, absent, kept, at, repaired_tree}

-- ---- what always holds

-- a replica is a tree, and what it holds has the kind that its fid has, and was made
pub record IsSoundAt (root : Fid) (kind made : Fid → Bool) (view : Objects) : Type 0 where
  pub tree : IsTreeView root view
  pub kinds : (f : Fid) → HasKind (kind f) (finmap.get view f)
  pub was_made : (f : Fid) → has_in view f ≡ true → made f ≡ true

-- each replica is so, by one kind for each fid, and the root is a directory
pub record AreSound (root : Fid) (servers : List ℕ) (group : Group) : Type 0 where
  pub kind : Fid → Bool
  pub top : kind root ≡ true
  pub root_made : group.made root ≡ true
  pub each : (s : ℕ) → IsIn s servers → IsSoundAt root kind group.made (group.holds s)

view_from : (group : Group) (some : List ℕ) (v : Objects) → IsIn v (held_at group some)
    → (s : ℕ) × (IsIn s some × (group.holds s ≡ v))
view_from group [] v i = absurd i
view_from group (s ∷ some) v (inl e) = (s, (inl refl, e))
view_from group (s ∷ some) v (inr i) = let m = view_from group some v i in (m.0, (inr m.1.0, m.1.1))

held_some : (group : Group) (some : List ℕ) → some ≢ [] → held_at group some ≢ []
held_some group [] ne e = ne refl
held_some group (s ∷ some) ne e = absurd cc

-- so any of them are trees of one kind
module _ (root : Fid) (servers : List ℕ) (group : Group) (sound : AreSound root servers group) (some : List ℕ) (among : AreAmong some servers) where
  all_kinds : (f : Fid) → AllByRecursion (HasKind (sound.kind f)) (copies_at (held_at group some) f)
  all_kinds f = all_copies (HasKind (sound.kind f)) (held_at group some) f (λ v i. let s = view_from group some v i in subst (λ x. HasKind (sound.kind f) (finmap.get x f)) s.1.1 ((sound.each s.0 (among s.0 s.1.0)).kinds f))

  pub trees_of_one_kind : some ≢ [] → AreTreesOfOneKind (held_at group some) root
  trees_of_one_kind ne = record {
    trees = all_trees root (held_at group some) (held_some group some ne) (λ v i. let s = view_from group some v i in subst (IsTreeView root) s.1.1 (sound.each s.0 (among s.0 s.1.0)).tree);
    top = subst (λ b. AllByRecursion (HasKind b) (copies_at (held_at group some) root)) sound.top (all_kinds root);
    kinds = λ f. (sound.kind f, all_kinds f);
  }

-- ---- a decision

-- the kind of what is held: that of a file, where nothing is
abbrev kind_by : Option Held → Bool
kind_by None = false
kind_by (Some held) = is_dir held.node.kind

own_kind : (o : Option Held) → HasKind (kind_by o) o
own_kind None = tt
own_kind (Some held) = refl

module _ (root : Fid) (servers : List ℕ) (before : Group) (sound : AreSound root servers before) (server client : ℕ) (rec : Record) (at_server : IsIn server servers) (after : Group) (decided : IsDecided server client rec before after) where
  abbrev new : Fid → Bool
  new = is_at_fid (makes rec.op)

  abbrev view : Objects
  view = before.holds server

  abbrev kind : Fid → Bool
  kind f = cond (new f) (kind_by (finmap.get (after.holds server) f)) (sound.kind f)

  own : IsSoundAt root sound.kind before.made view
  own = sound.each server at_server

  not_new : (f : Fid) → before.made f ≡ true → new f ≡ false
  not_new f made = by (new f) refl
    where
      made_by : (o : Option Fid) → is_at_fid o f ≡ true → o ≡ Some f
      made_by None e = absurd (true≢false (sym e))
      made_by (Some g) e = ap Some (same_fid_is g f e)

      by : (b : Bool) → new f ≡ b → b ≡ false
      by true e = absurd (true≢false (sym made ∙ decided.new f (made_by (makes rec.op) e)))
      by false e = refl

  is_new : (f : Fid) → makes rec.op ≡ Some f → new f ≡ true
  is_new f e = ap (λ o. is_at_fid o f) e ∙ same_fid_refl f

  kind_old : (f : Fid) → before.made f ≡ true → kind f ≡ sound.kind f
  kind_old f made = ap (λ b. cond b (kind_by (finmap.get (after.holds server) f)) (sound.kind f)) (not_new f made)

  made_on : (f : Fid) → before.made f ≡ true → after.made f ≡ true
  made_on f e = decided.made f ∙ or_first (before.made f) (new f) e

  kept_kind : (f : Fid) (o : Option Held) → (is_some o ≡ true → before.made f ≡ true) → HasKind (sound.kind f) o
      → HasKind (kind f) o
  kept_kind f None made k = tt
  kept_kind f (Some held) made k = k ∙ sym (kind_old f (made refl))

  dir : HasKind true (finmap.get view root)
  dir = subst (λ b. HasKind b (finmap.get view root)) sound.top (own.kinds root)

  here : (f : Fid) → DecidedAt view (after.holds server) (makes rec.op) f
  here f = decided_at root server client rec view (after.holds server) decided.decides own.tree dir f

  at_decider : IsSoundAt root kind after.made (after.holds server)
  at_decider = record {
    tree = decided_tree root server client rec view (after.holds server) decided.decides own.tree dir;
    kinds = λ f. kinds f (here f);
    was_made = λ f e. was_made f e (here f);
  }
    where
      kinds : (f : Fid) → DecidedAt view (after.holds server) (makes rec.op) f
          → HasKind (kind f) (finmap.get (after.holds server) f)
      kinds f (none_left e) = subst (HasKind (kind f)) (sym e) tt
      kinds f (came e) =
          subst (λ b. HasKind b (finmap.get (after.holds server) f))
          (sym (ap (λ b. cond b (kind_by (finmap.get (after.holds server) f)) (sound.kind f)) (is_new f e)))
          (own_kind (finmap.get (after.holds server) f))
      kinds f (stayed old held e h same) =
          let was : is_dir old.node.kind ≡ sound.kind f = subst (HasKind (sound.kind f)) e (own.kinds f) in
          subst (HasKind (kind f)) (sym h) (same ∙ was ∙ sym (kind_old f (own.was_made f (ap is_some e))))

      was_made : (f : Fid) → has_in (after.holds server) f ≡ true
          → DecidedAt view (after.holds server) (makes rec.op) f → after.made f ≡ true
      was_made f there (none_left e) = absurd (true≢false (sym there ∙ ap is_some e))
      was_made f there (came e) = decided.made f ∙ or_second (before.made f) (new f) (is_new f e)
      was_made f there (stayed old held e h same) = made_on f (own.was_made f (ap is_some e))

  at_other : (s : ℕ) → IsIn s servers → after.holds s ≡ before.holds s → IsSoundAt root kind after.made (after.holds s)
  at_other s i same = subst (IsSoundAt root kind after.made) (sym same) (
      let was = sound.each s i in
      record {
        tree = was.tree;
        kinds = λ f. kept_kind f (finmap.get (before.holds s) f) (was.was_made f) (was.kinds f);
        was_made = λ f e. made_on f (was.was_made f e);
      })

  pub decided_sound : AreSound root servers after
  decided_sound = record {
    kind = kind;
    top = kind_old root sound.root_made ∙ sound.top;
    root_made = made_on root sound.root_made;
    each =
        λ s i. ⊎_elim (λ (e : s ≡ server). subst (λ t. IsSoundAt root kind after.made (after.holds t)) (sym e)
        at_decider) (λ (ne : s ≢ server). at_other s i (decided.others s ne)) (cases_eq s server);
  }

-- ---- a resolution

module _ (root : Fid) (servers : List ℕ) (before : Group) (sound : AreSound root servers before) (some : List ℕ) (among : AreAmong some servers) (after : Group) (resolved : IsResolved root some before after) where
  abbrev views : Replicas
  views = held_at before some

  taken_made : (f : Fid) → IsTakenUp views root f → before.made f ≡ true
  taken_made g (at_root f is) = ap before.made is ∙ sound.root_made
  taken_made g (below d n f held same is up) =
      let v = some_view (Binds n f) d views (fate_bound (copies_at views d) (copies_at views) held n f same is) in
      let s = view_from before some v.0 v.1.0 in
      let own = sound.each s.0 (among s.0 s.1.0) in
      own.was_made f (own.tree.there d n f (subst (λ (x : Objects). Binds n f (finmap.get x d)) (sym s.1.1) v.1.1))

  kept_made : (s : ℕ) → IsIn s some → (f : Fid) → KeepsOwn views root (before.holds s) f → before.made f ≡ true
  kept_made s i g (marked_there d why up is) = taken_made d up
  kept_made s i g (further d n f keeps bound) = let own = sound.each s (among s i) in own.was_made f (own.tree.there d n f bound)

  installed_at : (s : ℕ) → IsIn s some → IsInstalled views root (before.holds s) (after.holds s)
      → IsSoundAt root sound.kind before.made (after.holds s)
  installed_at s i installed = record {
    tree =
        tree_after views root (before.holds s) (after.holds s)
        (trees_of_one_kind root servers before sound some among (λ none. subst (IsIn s) none i))
        (in_map before.holds some s i) installed;
    kinds =
        λ f. kind_after views root f (sound.kind f) (before.holds s) (after.holds s)
        (all_kinds root servers before sound some among f) ((sound.each s (among s i)).kinds f) installed;
    was_made = λ f e. ⊎_elim (taken_made f) (kept_made s i f) (installed.only f e);
  }

  pub resolved_sound : AreSound root servers after
  resolved_sound = record {
    kind = sound.kind;
    top = sound.top;
    root_made = ap (λ (made : Fid → Bool). made root) resolved.made ∙ sound.root_made;
    each = λ s i. subst (λ made. IsSoundAt root sound.kind made (after.holds s)) (sym resolved.made) (⊎_elim
        (λ (e : after.holds s ≡ before.holds s). subst (IsSoundAt root sound.kind before.made) (sym e) (sound.each s i))
        (λ (x : IsIn s some × IsInstalled views root (before.holds s) (after.holds s)). installed_at s x.0 x.1)
        (resolved.each s));
  }

-- ---- a repair

module _ (root : Fid) (servers : List ℕ) (before : Group) (sound : AreSound root servers before) (some : List ℕ) (among : AreAmong some servers) (source : ℕ) (source_in : IsIn source some) (names : List Name) (after : Group) (repair : IsRepaired root some source names before after) where
  abbrev right : Objects
  right = before.holds source

  abbrev copies : Fid → Copies
  copies = copies_at (held_at before some)

  from : IsSoundAt root sound.kind before.made right
  from = sound.each source (among source source_in)

  repaired_at : (s : ℕ) → IsIn s some
      → IsRepairedAt repair.subtree repair.top source copies right (before.holds s) (after.holds s)
      → IsSoundAt root sound.kind before.made (after.holds s)
  repaired_at s i done = record {
    tree =
        repaired_tree root right (before.holds s) (after.holds s) repair.subtree repair.top source copies names
        from.tree own.tree (repair.leads s i) repair.below done;
    kinds = λ f. kinds f (here f);
    was_made = λ f e. was_made f e (here f);
  }
    where
      own : IsSoundAt root sound.kind before.made (before.holds s)
      own = sound.each s (among s i)

      here : (f : Fid) → RepairedAt repair.subtree repair.top source copies right (before.holds s) (after.holds s) f
      here f =
          at root right (before.holds s) (after.holds s) repair.subtree repair.top source copies names from.tree
          own.tree (repair.leads s i) repair.below done f

      kinds : (f : Fid) → RepairedAt repair.subtree repair.top source copies right (before.holds s) (after.holds s) f
          → HasKind (sound.kind f) (finmap.get (after.holds s) f)
      kinds f (put held inside r is) =
          subst (HasKind (sound.kind f)) (sym is) (subst (HasKind (sound.kind f)) r (from.kinds f))
      kinds f (went g outside inside up is) = subst (HasKind (sound.kind f)) (sym is) tt
      kinds f (absent outside e is) = subst (HasKind (sound.kind f)) (sym is) tt
      kinds f (kept held outside e is) =
          subst (HasKind (sound.kind f)) (sym is) (spared_kind repair.subtree repair.top held held.node.kind refl
          ∙ subst (HasKind (sound.kind f)) e (own.kinds f))

      was_made : (f : Fid) → has_in (after.holds s) f ≡ true
          → RepairedAt repair.subtree repair.top source copies right (before.holds s) (after.holds s) f
          → before.made f ≡ true
      was_made f there (put held inside r is) = from.was_made f (ap is_some r)
      was_made f there (went g outside inside up is) = absurd (true≢false (sym there ∙ ap is_some is))
      was_made f there (absent outside e is) = absurd (true≢false (sym there ∙ ap is_some is))
      was_made f there (kept held outside e is) = own.was_made f (ap is_some e)

  pub repaired_sound : AreSound root servers after
  repaired_sound = record {
    kind = sound.kind;
    top = sound.top;
    root_made = ap (λ (made : Fid → Bool). made root) repair.made ∙ sound.root_made;
    each = λ s i. subst (λ made. IsSoundAt root sound.kind made (after.holds s)) (sym repair.made) (⊎_elim
        (λ (e : after.holds s ≡ before.holds s). subst (IsSoundAt root sound.kind before.made) (sym e) (sound.each s i))
        (λ (x : IsIn s some × IsRepairedAt repair.subtree repair.top source copies right (before.holds s)
        (after.holds s)). repaired_at s x.0 x.1)
        (repair.each s));
  }
