-- Changes of a tree, whatever is kept at its places.
use Rattle.std.proofs.Common.{◌≡◌, ◌≢◌, Bool, true, false, Some, None, sym, ap, ◌∙◌, subst, inl, inr, ◌⊎◌}
use Rattle.std.proofs.lemmas.Option.{none-some}
use Rattle.coda_fid.specs.declared.fid.Fid.{Fid}
use Rattle.coda_tree.specs.Bindings.{Name}
use Rattle.coda_tree.specs.Tree.{Child, IsBelow, itself, under, IsTree}
use Rattle.coda_tree.proofs.Order.{fid_cases, name_cases}

-- a tree with more bindings keeps what is below
pub below_kept : {c c' : Child} {g : Fid} → ((d : Fid) (n : Name) (f : Fid) → c d n ≡ Some f → c' d n ≡ Some f) → (f : Fid) → IsBelow c g f → IsBelow c' g f
below_kept more f (itself f' same) = itself f same
below_kept more f (under d n f' h up) = under d n f (more d n f h) (below_kept more d up)

-- below what is below
pub below_below : {c : Child} {g f : Fid} (e : Fid) → IsBelow c g f → IsBelow c f e → IsBelow c g e
below_below {c} {g} e b (itself e' same) = subst (IsBelow c g) (sym same) b
below_below e b (under d n e' h up) = under d n e h (below_below d b up)

-- nothing but itself is below what binds nothing
pub below_leaf : {c : Child} {g : Fid} → ((n : Name) → c g n ≡ None) → (f : Fid) → IsBelow c g f → f ≡ g
below_leaf leaf f (itself f' same) = same
below_leaf {c} leaf f (under d n f' h up) = absurd (none-some f (sym (leaf n) ∙ ap (λ e. c e n) (sym (below_leaf leaf d up)) ∙ h))

-- two places, the same or not
pub edge_cases : (d e : Fid) (n k : Name) → ((d ≡ e) × (n ≡ k)) ⊎ (((d ≡ e) × (n ≡ k)) → ⊥)
edge_cases d e n k = elim (fid_cases d e) [
  | inl same ↦ elim (name_cases n k) [
    | inl alike ↦ inl (same, alike)
    | inr differs ↦ inr (λ both. differs both.1)
  ]
  | inr apart ↦ inr (λ both. apart both.0)
]

-- ---- a new fid

-- has' and c' are has and c with a new fid, which a directory binds at a free name
pub record IsAddition (has has' : Fid → Bool) (c c' : Child) (dir : Fid) (name : Name) (new : Fid) : Type 0 where
  pub dir_there : has dir ≡ true
  pub new_free : has new ≡ false
  pub name_free : c dir name ≡ None
  pub here : c' dir name ≡ Some new
  pub elsewhere : (d : Fid) (n : Name) → (((d ≡ dir) × (n ≡ name)) → ⊥) → c' d n ≡ c d n
  pub new_there : has' new ≡ true
  pub others : (q : Fid) → q ≢ new → has' q ≡ has q

module _ {root dir new : Fid} {name : Name} {has has' : Fid → Bool} {c c' : Child} (t : IsTree root has c) (a : IsAddition has has' c c' dir name new) where
  pub not_new : (q : Fid) → has q ≡ true → q ≢ new
  not_new q there same = let free = a.new_free in cc

  still_there : (q : Fid) → has q ≡ true → has' q ≡ true
  still_there q there = a.others q (not_new q there) ∙ there

  -- a binding is the new one or an old one
  pub added_edge : (d : Fid) (n : Name) (f : Fid) → c' d n ≡ Some f → ((d ≡ dir) × (n ≡ name) × (f ≡ new)) ⊎ (c d n ≡ Some f)
  added_edge d n f h = elim (edge_cases d dir n name) [
    | inl both ↦
        let at_new : c' dir name ≡ Some f = subst (λ e. c' e name ≡ Some f) both.0 (subst (λ k. c' d k ≡ Some f) both.1 h) in
        let here = a.here in
        inl (both.0, both.1, cc)
    | inr apart ↦ inr (sym (a.elsewhere d n apart) ∙ h)
  ]

  pub more : (d : Fid) (n : Name) (f : Fid) → c d n ≡ Some f → c' d n ≡ Some f
  more d n f h = a.elsewhere d n (λ both.
      let free : c d n ≡ None = subst (λ e. c e n ≡ None) (sym both.0) (subst (λ k. c dir k ≡ None) (sym both.1) a.name_free) in
      cc) ∙ h

  pub tree_added : IsTree root has' c'
  tree_added = record {
    rooted = still_there root t.rooted;
    unbound = λ d n h. elim (added_edge d n root h) [
      | inl at ↦ not_new root t.rooted at.2
      | inr old ↦ t.unbound d n old
    ];
    from = λ d n f h. elim (added_edge d n f h) [
      | inl at ↦ still_there d (subst (λ e. has e ≡ true) (sym at.0) a.dir_there)
      | inr old ↦ still_there d (t.from d n f old)
    ];
    there = λ d n f h. elim (added_edge d n f h) [
      | inl at ↦ subst (λ e. has' e ≡ true) (sym at.2) a.new_there
      | inr old ↦ still_there f (t.there d n f old)
    ];
    once = λ d n e k f h i. elim (added_edge d n f h) [
      | inl at ↦ elim (added_edge e k f i) [
        | inl here ↦ (at.0 ∙ sym here.0, at.1 ∙ sym here.1)
        | inr old ↦ absurd (not_new f (t.there e k f old) at.2)
      ]
      | inr at ↦ elim (added_edge e k f i) [
        | inl here ↦ absurd (not_new f (t.there d n f at) here.2)
        | inr old ↦ t.once d n e k f at old
      ]
    ];
    reached = λ f h. elim (fid_cases f new) [
      | inl same ↦ under dir name f (a.here ∙ ap Some (sym same)) (below_kept more dir (t.reached dir a.dir_there))
      | inr differs ↦ below_kept more f (t.reached f (sym (a.others f differs) ∙ h))
    ];
  }

-- ---- a fid taken out

-- has' and c' are has and c without a fid that binds nothing, nor the name that a directory bound it at
pub record IsRemoval (has has' : Fid → Bool) (c c' : Child) (dir : Fid) (name : Name) (old : Fid) : Type 0 where
  pub was : c dir name ≡ Some old
  pub leaf : (n : Name) → c old n ≡ None
  pub here : c' dir name ≡ None
  pub elsewhere : (d : Fid) (n : Name) → (((d ≡ dir) × (n ≡ name)) → ⊥) → c' d n ≡ c d n
  pub old_gone : has' old ≡ false
  pub others : (q : Fid) → q ≢ old → has' q ≡ has q

module _ {root dir old : Fid} {name : Name} {has has' : Fid → Bool} {c c' : Child} (t : IsTree root has c) (a : IsRemoval has has' c c' dir name old) where
  -- a binding that is left is an old one, of another fid
  pub left_edge : (d : Fid) (n : Name) (f : Fid) → c' d n ≡ Some f → (c d n ≡ Some f) × (f ≢ old)
  left_edge d n f h = elim (edge_cases d dir n name) [
    | inl both ↦
        let none : c' d n ≡ None = subst (λ e. c' e n ≡ None) (sym both.0) (subst (λ k. c' dir k ≡ None) (sym both.1) a.here) in
        cc
    | inr apart ↦
        let is : c d n ≡ Some f = sym (a.elsewhere d n apart) ∙ h in
        (is, λ same. apart (t.once d n dir name old (is ∙ ap Some same) a.was))
  ]

  pub kept_edge : (d : Fid) (n : Name) (f : Fid) → f ≢ old → c d n ≡ Some f → c' d n ≡ Some f
  kept_edge d n f differs h = a.elsewhere d n (λ both.
      let was : c d n ≡ Some old = subst (λ e. c e n ≡ Some old) (sym both.0) (subst (λ k. c dir k ≡ Some old) (sym both.1) a.was) in
      differs cc) ∙ h

  not_parent : (d : Fid) (n : Name) (f : Fid) → c d n ≡ Some f → d ≢ old
  not_parent d n f h same =
      let none : c d n ≡ None = subst (λ e. c e n ≡ None) (sym same) (a.leaf n) in
      cc

  still_reached : (f : Fid) → f ≢ old → IsBelow c root f → IsBelow c' root f
  still_reached f differs (itself f' same) = itself f same
  still_reached f differs (under d n f' h up) = under d n f (kept_edge d n f differs h) (still_reached d (not_parent d n f h) up)

  left_differs : (q : Fid) → has' q ≡ true → q ≢ old
  left_differs q h same = let gone = a.old_gone in cc

  -- the root stays
  pub root_differs : root ≢ old
  root_differs same = t.unbound dir name (a.was ∙ ap Some (sym same))

  pub tree_removed : IsTree root has' c'
  tree_removed = record {
    rooted = a.others root root_differs ∙ t.rooted;
    unbound = λ d n h. t.unbound d n (left_edge d n root h).0;
    from = λ d n f h. let was = left_edge d n f h in a.others d (not_parent d n f was.0) ∙ t.from d n f was.0;
    there = λ d n f h. let was = left_edge d n f h in a.others f was.1 ∙ t.there d n f was.0;
    once = λ d n e k f h i. t.once d n e k f (left_edge d n f h).0 (left_edge e k f i).0;
    reached = λ f h. let differs = left_differs f h in still_reached f differs (t.reached f (sym (a.others f differs) ∙ h));
  }

-- ---- a fid moved

-- c' is c with a fid bound at another place, a free one that is not below it
pub record IsMove (c c' : Child) (from : Fid) (name : Name) (to : Fid) (new : Name) (old : Fid) : Type 0 where
  pub was : c from name ≡ Some old
  pub free : c to new ≡ None
  pub here : c' to new ≡ Some old
  pub left : c' from name ≡ None
  pub elsewhere : (d : Fid) (n : Name) → (((d ≡ from) × (n ≡ name)) → ⊥) → (((d ≡ to) × (n ≡ new)) → ⊥) → c' d n ≡ c d n
  pub not_below : IsBelow c old to → ⊥

module _ {root from to old : Fid} {name new : Name} {has has' : Fid → Bool} {c c' : Child} (t : IsTree root has c) (there : (q : Fid) → has' q ≡ has q) (to_there : has to ≡ true) (a : IsMove c c' from name to new old) where
  -- a binding is the new one, or an old one of another fid
  pub moved_edge : (d : Fid) (n : Name) (f : Fid) → c' d n ≡ Some f → ((d ≡ to) × (n ≡ new) × (f ≡ old)) ⊎ ((c d n ≡ Some f) × (f ≢ old))
  moved_edge d n f h = elim (edge_cases d to n new) [
    | inl both ↦
        let at : c' to new ≡ Some f = subst (λ e. c' e new ≡ Some f) both.0 (subst (λ k. c' d k ≡ Some f) both.1 h) in
        let here = a.here in
        inl (both.0, both.1, cc)
    | inr apart ↦ elim (edge_cases d from n name) [
      | inl both ↦
          let none : c' d n ≡ None = subst (λ e. c' e n ≡ None) (sym both.0) (subst (λ k. c' from k ≡ None) (sym both.1) a.left) in
          cc
      | inr differs ↦
          let is : c d n ≡ Some f = sym (a.elsewhere d n differs apart) ∙ h in
          inr (is, λ same. differs (t.once d n from name old (is ∙ ap Some same) a.was))
    ]
  ]

  -- an old binding stands, or was that of the moved fid
  pub old_edge : (d : Fid) (n : Name) (f : Fid) → c d n ≡ Some f → (c' d n ≡ Some f) ⊎ (f ≡ old)
  old_edge d n f h = elim (edge_cases d from n name) [
    | inl both ↦
        let was : c d n ≡ Some old = subst (λ e. c e n ≡ Some old) (sym both.0) (subst (λ k. c from k ≡ Some old) (sym both.1) a.was) in
        inr cc
    | inr differs ↦ inl (a.elsewhere d n differs (λ both.
        let none : c d n ≡ None = subst (λ e. c e n ≡ None) (sym both.0) (subst (λ k. c to k ≡ None) (sym both.1) a.free) in
        cc) ∙ h)
  ]

  -- what was reached from the root is, or is below the moved fid
  split_reached : (f : Fid) → IsBelow c root f → (IsBelow c' root f) ⊎ (IsBelow c' old f)
  split_reached f (itself f' same) = inl (itself f same)
  split_reached f (under d n f' h up) = elim (old_edge d n f h) [
    | inl is ↦ elim (split_reached d up) [
      | inl rooted ↦ inl (under d n f is rooted)
      | inr below ↦ inr (under d n f is below)
    ]
    | inr same ↦ inr (itself f same)
  ]

  -- what is below the moved fid was
  was_below : (f : Fid) → IsBelow c' old f → IsBelow c old f
  was_below f (itself f' same) = itself f same
  was_below f (under d n f' h up) = elim (moved_edge d n f h) [
    | inl at ↦ itself f at.2
    | inr is ↦ under d n f is.0 (was_below d up)
  ]

  to_reached : IsBelow c' root to
  to_reached = elim (split_reached to (t.reached to to_there)) [
    | inl rooted ↦ rooted
    | inr below ↦ absurd (a.not_below (was_below to below))
  ]

  old_there : has old ≡ true
  old_there = t.there from name old a.was

  pub tree_moved : IsTree root has' c'
  tree_moved = record {
    rooted = there root ∙ t.rooted;
    unbound = λ d n h. elim (moved_edge d n root h) [
      | inl at ↦ t.unbound from name (a.was ∙ ap Some (sym at.2))
      | inr is ↦ t.unbound d n is.0
    ];
    from = λ d n f h. elim (moved_edge d n f h) [
      | inl at ↦ there d ∙ subst (λ e. has e ≡ true) (sym at.0) to_there
      | inr is ↦ there d ∙ t.from d n f is.0
    ];
    there = λ d n f h. elim (moved_edge d n f h) [
      | inl at ↦ there f ∙ subst (λ e. has e ≡ true) (sym at.2) old_there
      | inr is ↦ there f ∙ t.there d n f is.0
    ];
    once = λ d n e k f h i. elim (moved_edge d n f h) [
      | inl at ↦ elim (moved_edge e k f i) [
        | inl here ↦ (at.0 ∙ sym here.0, at.1 ∙ sym here.1)
        | inr is ↦ absurd (is.1 at.2)
      ]
      | inr at ↦ elim (moved_edge e k f i) [
        | inl here ↦ absurd (at.1 here.2)
        | inr is ↦ t.once d n e k f at.0 is.0
      ]
    ];
    reached = λ f h. elim (split_reached f (t.reached f (sym (there f) ∙ h))) [
      | inl rooted ↦ rooted
      | inr below ↦ below_below f (under to new old a.here to_reached) below
    ];
  }

-- ---- nothing changed

-- a tree by the same bindings
pub tree_same : {root : Fid} {has has' : Fid → Bool} {c c' : Child} → ((q : Fid) → has' q ≡ has q) → ((d : Fid) (n : Name) → c' d n ≡ c d n) → IsTree root has c → IsTree root has' c'
tree_same {root} there same t = record {
  rooted = there root ∙ t.rooted;
  unbound = λ d n h. t.unbound d n (sym (same d n) ∙ h);
  from = λ d n f h. there d ∙ t.from d n f (sym (same d n) ∙ h);
  there = λ d n f h. there f ∙ t.there d n f (sym (same d n) ∙ h);
  once = λ d n e k f h i. t.once d n e k f (sym (same d n) ∙ h) (sym (same e k) ∙ i);
  reached = λ f h. below_kept (λ d n g is. same d n ∙ is) f (t.reached f (sym (there f) ∙ h));
}
