-- What look-ups along names meet is held, or it can't be fetched.
use Rattle.std.proofs.Common.{◌≡◌, List, [], ◌∷◌, Option, Some, None, Result, Ok, Err, refl, sym, ap, subst, ◌∙◌, inl, inr, ◌⊎◌}
use Rattle.std.specs.FinMap as map
use Rattle.std.specs.Option.{option_and_then}
use Rattle.std.proofs.lemmas.Option.{none-some}
use Rattle.coda_fid.specs.declared.fid.Fid.{Fid}
use Rattle.coda_fid.proofs.Fids.{fids_total}
use Rattle.coda_tree.specs.declared.node.Node.{Node}
use Rattle.coda_tree.specs.Bindings.{Name}
use Rattle.coda_tree.specs.Volume.{Nodes, parent_of}
use Rattle.coda_tree.proofs.Order.{get_here}
use Rattle.coda_cell.specs.Held.{held_after_fetches}
use Rattle.coda_venus.specs.Held.{Held}
use Rattle.coda_cell.specs.Looking.{offered, fetch_of, look, looked, look_on, look_along}
use Rattle.coda_venus.specs.Looking.{step_from}
use Rattle.coda_venus.specs.declared.refused.Refused.{Refused}
use Rattle.coda_cell.proofs.Fetches.{held_after_both}
use Rattle.coda_cell.proofs.Offered.{fetched_along_is_offered}
use Rattle.coda_runs.proofs.Served.{keeps_look, held_or_fetched}

-- ---- what is met on the way along names

module _ (offers : Option Nodes) where
  -- an object that isn't held can't be fetched
  abbrev pub IsSought : Nodes → Fid → Type 0
  IsSought m fid = map.get m fid ≡ None → offered offers fid ≡ None

  -- so it is of each object that names lead to
  abbrev pub AreSought : Nodes → Fid → List Name → Type 0
  AreSought m at [] = IsSought m at
  AreSought m at (name ∷ names) = IsSought m at × ((next : Fid) → step_from (map.get m at) at name ≡ Ok next → AreSought m next names)

  -- nodes to which only fetched ones came
  pub record HasMore (m n : Nodes) : Type 0 where
    pub keeps : (fid : Fid) (node : Node) → map.get m fid ≡ Some node → map.get n fid ≡ Some node
    pub from : (fid : Fid) (node : Node) → map.get n fid ≡ Some node → (map.get m fid ≡ Some node) ⊎ (offered offers fid ≡ Some node)

  none_before : (m n : Nodes) → HasMore m n → (fid : Fid) → map.get n fid ≡ None → map.get m fid ≡ None
  none_before m n more fid none = by (map.get m fid) refl
    where
      by : (o : Option Node) → map.get m fid ≡ o → o ≡ None
      by None e = refl
      by (Some node) e = absurd (none-some node (sym none ∙ more.keeps fid node e))

  -- what is met is there as it was, where it was sought
  same_there : (m n : Nodes) → HasMore m n → (fid : Fid) → IsSought m fid → (node : Node) → map.get n fid ≡ Some node → map.get m fid ≡ Some node
  same_there m n more fid sought node is = elim (more.from fid node is) [
    | inl was ↦ was
    | inr came ↦ by (map.get m fid) refl came
  ]
    where
      by : (o : Option Node) → map.get m fid ≡ o → offered offers fid ≡ Some node → map.get m fid ≡ Some node
      by None e came = absurd (none-some node (sym (sought e) ∙ came))
      by (Some other) e came = e ∙ sym (more.keeps fid other e) ∙ is

  -- what was sought still is, whatever more is fetched
  pub still_sought : (m n : Nodes) → HasMore m n → (at : Fid) (names : List Name) → AreSought m at names → AreSought n at names
  still_sought m n more at [] sought = λ none. sought (none_before m n more at none)
  still_sought m n more at (name ∷ names) sought = (
    (λ none. sought.0 (none_before m n more at none)),
    (λ next is. still_sought m n more next names (sought.1 next (by (map.get n at) refl next is))),
  )
    where
      by : (o : Option Node) → map.get n at ≡ o → (next : Fid) → step_from (map.get n at) at name ≡ Ok next → step_from (map.get m at) at name ≡ Ok next
      by None e next is = let no : step_from None at name ≡ Ok next = sym (ap (λ x. step_from x at name) e) ∙ is in cc
      by (Some node) e next is = ap (λ x. step_from x at name) (same_there m n more at sought.0 node e) ∙ sym (ap (λ x. step_from x at name) e) ∙ is

  has_more_itself : (m : Nodes) → HasMore m m
  has_more_itself m = record { keeps = λ fid node is. is; from = λ fid node is. inl is }

  has_more_twice : (m n o : Nodes) → HasMore m n → HasMore n o → HasMore m o
  has_more_twice m n o a b = record {
    keeps = λ fid node is. b.keeps fid node (a.keeps fid node is);
    from = λ fid node is. elim (b.from fid node is) [ inl there ↦ a.from fid node there | inr came ↦ inr came ];
  }

  -- one look-up
  look_more : (h : Held) (fid : Fid) → HasMore h.nodes (looked offers h fid).nodes
  look_more h fid = record {
    keeps = λ f node is. keeps_look h.nodes offers h fid (λ g x e. e) f node is;
    from = λ f node is. elim (held_or_fetched h (look offers h fid) f node is) [
      | inl was ↦ inl was
      | inr fetch ↦ (
          let o = fetched_along_is_offered offers h fid [] fetch.0 fetch.1 in
          inr (ap (λ (x : Option Nodes). option_and_then (λ nodes. map.get nodes f) x) o.1 ∙ ap (map.get o.0) (sym fetch.2) ∙ o.2 ∙ ap Some fetch.3))
    ];
  }

  look_sought : (h : Held) (fid : Fid) → IsSought (looked offers h fid).nodes fid
  look_sought h fid none = by (map.get h.nodes fid) (offered offers fid) refl refl
    where
      by : (o offer : Option Node) → map.get h.nodes fid ≡ o → offered offers fid ≡ offer → offer ≡ None
      by o None e f = refl
      by (Some node) (Some new) e f = absurd (none-some node (sym none ∙ (look_more h fid).keeps fid node e))
      by None (Some new) e f =
          let fetched : held_after_fetches h (fetch_of (map.get h.nodes fid) (offered offers fid) (parent_of h.nodes fid) fid) ≡ held_after_fetches h (fetch_of None (Some new) (parent_of h.nodes fid) fid) =
          λ i. held_after_fetches h (fetch_of (e i) (f i) (parent_of h.nodes fid) fid) in
          absurd (none-some new (sym none ∙ ap (λ (x : Held). map.get x.nodes fid) fetched ∙ get_here fids_total h.nodes fid new))

  -- look-ups along names
  pub record LooksAlong (h : Held) (at : Fid) (names : List Name) (n : Nodes) : Type 0 where
    pub more : HasMore h.nodes n
    pub sought : AreSought n at names

  pub looks_along : (h : Held) (at : Fid) (names : List Name) → LooksAlong h at names (held_after_fetches h (look_along offers h at names)).nodes
  looks_along h at [] = record { more = look_more h at; sought = look_sought h at }
  looks_along h at (name ∷ names) =
      let h1 = looked offers h at in
      subst (λ (x : Held). LooksAlong h at (name ∷ names) x.nodes) (sym (held_after_both h (look offers h at) (look_on (step_from (map.get h1.nodes at) at name) (λ next. look_along offers h1 next names))))
      (by (step_from (map.get h1.nodes at) at name) refl (λ next. looks_along (looked offers h at) next names))
    where
      by : (r : Result Fid Refused) → step_from (map.get (looked offers h at).nodes at) at name ≡ r
          → ((next : Fid) → LooksAlong (looked offers h at) next names (held_after_fetches (looked offers h at) (look_along offers (looked offers h at) next names)).nodes)
          → LooksAlong h at (name ∷ names) (held_after_fetches (looked offers h at) (look_on r (λ next. look_along offers (looked offers h at) next names))).nodes
      by (Err why) e on = record {
        more = look_more h at;
        sought = (look_sought h at, λ next is. (let no : Err why ≡ Ok next = sym e ∙ is in cc));
      }
      by (Ok next) e on =
          let h1 = looked offers h at in
          let rest = on next in
          let n = (held_after_fetches h1 (look_along offers h1 next names)).nodes in
          let sought_at = still_sought h1.nodes n rest.more at [] (look_sought h at) in
          record {
            more = has_more_twice h.nodes h1.nodes n (look_more h at) rest.more;
            sought = (sought_at, λ other is. subst (λ f. AreSought n f names) (same_next n rest.more next other e is) rest.sought);
          }
        where
          same_next : (n : Nodes) → HasMore (looked offers h at).nodes n → (next other : Fid) → step_from (map.get (looked offers h at).nodes at) at name ≡ Ok next → step_from (map.get n at) at name ≡ Ok other → next ≡ other
          same_next n more next other e is = at_node (map.get (looked offers h at).nodes at) refl
            where
              at_node : (o : Option Node) → map.get (looked offers h at).nodes at ≡ o → next ≡ other
              at_node None here = let no : step_from None at name ≡ Ok next = sym (ap (λ x. step_from x at name) here) ∙ e in cc
              at_node (Some node) here =
                  let both : (let ok : Fid → Result Fid Refused = λ f. Ok f in ok next ≡ ok other) = sym e ∙ ap (λ x. step_from x at name) (here ∙ sym (more.keeps at node here)) ∙ is in cc
