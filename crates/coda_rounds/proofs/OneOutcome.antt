-- A call has one outcome.
use Rattle.std.proofs.Common.{◌≡◌, ℕ, List, [], ◌∷◌, ◌++◌, Result, Ok, Err, sym, ap, ◌∙◌, subst}
use Rattle.coda_fid.specs.declared.fid.Fid.{Fid}
use Rattle.coda_tree.specs.declared.node.Node.{Node}
use Rattle.coda_cache.specs.declared.fault.CacheFault.{CacheFault}
use Rattle.coda_venus.specs.declared.refused.Refused.{Refused as Refusal}
use Rattle.coda_venus.specs.Serving.{ServingClient}
use Rattle.coda_venus.specs.Rounds.{Because, why_full, RoundStep, Looked, Installed, Turned, CallResult, Answered}
use Rattle.coda_venus.specs.Rounds.{Needs, CallTurn, ClientCall, Rounds, answers, fails, turned, again, Sources}
use Rattle.coda_venus.specs.Rounds.{serving_after, parent_of_fetched, goes_for_fetch}
use Rattle.coda_rounds.specs.Bounds.{RoundsAreOne}

-- what is done once is done
one_fault : {A B : Type 0} (x y : B) → (let r : Result A B = Err x in r ≡ Err y) → x ≡ y
one_fault x y e = cc

one_value : {A B : Type 0} (x y : A) → (let r : Result A B = Ok x in r ≡ Ok y) → x ≡ y
one_value x y e = cc

never_both : {A B : Type 0} (x : A) (y : B) → (let r : Result A B = Ok x in r ≡ Err y) → ⊥
never_both x y e = cc

one_answer : {A : Type 0} (own more : List RoundStep) (a b : A)
    → (let r : CallResult A = Answered own a in r ≡ Answered more b) → (own ≡ more) × (a ≡ b)
one_answer own more a b e = (cc, cc)

one_need : {A : Type 0} (f g : Fid) → (let r : CallResult A = Needs f in r ≡ Needs g) → f ≡ g
one_need f g e = cc

answers_or_needs : {A : Type 0} (own : List RoundStep) (a : A) (f : Fid)
    → (let r : CallResult A = Answered own a in r ≡ Needs f) → ⊥
answers_or_needs own a f e = cc

module _ (A : Type 0) (sources : Sources) (call : ClientCall A) (fetched : List Fid) (s : ServingClient) where
  -- a turn is one
  module _ (looked again_looked : List Fid) (x y : CallResult A)
      (e : call.turn fetched s ≡ record { looked = looked; comes_to = x })
      (f : call.turn fetched s ≡ record { looked = again_looked; comes_to = y }) where
    one_look : looked ≡ again_looked
    one_look = ap (λ (t : CallTurn A). t.looked) (sym e ∙ f)

    one_result : x ≡ y
    one_result = ap (λ (t : CallTurn A). t.comes_to) (sym e ∙ f)

  -- the rounds of a call that answers
  at_answer : (looked : List Fid) (own : List RoundStep) (answer : A)
      → call.turn fetched s ≡ record { looked = looked; comes_to = Answered own answer }
      → (others : List RoundStep) (other : A) → Rounds sources call fetched s others other
      → (Looked looked ∷ own ≡ others) × (answer ≡ other)
  at_answer looked own answer e others other (answers f' s' l o a f) =
      let is = one_answer own o answer a (one_result looked l _ _ e f) in
      let look = one_look looked l _ _ e f in
      ((λ i. Looked (look i) ∷ is.0 i), is.1)
  at_answer looked own answer e others other (fails f' s' l fid why f none) =
      absurd (answers_or_needs own answer fid (one_result looked l _ _ e f))
  at_answer looked own answer e others other (turned f' s' l fid node server why f given full) =
      absurd (answers_or_needs own answer fid (one_result looked l _ _ e f))
  at_answer looked own answer e others other (again f' s' l fid node server gone later a f given room rest) =
      absurd (answers_or_needs own answer fid (one_result looked l _ _ e f))

  module _ (looked : List Fid) (fid : Fid)
      (e : call.turn fetched s ≡ record { looked = looked; comes_to = Needs fid }) where
    -- that needs what can't be fetched
    at_missing : (why : Refusal) → sources fid ≡ Err why → (others : List RoundStep) (other : A)
        → Rounds sources call fetched s others other
        → (Looked looked ∷ [] ≡ others) × (call.refused (Because why) ≡ other)
    at_missing why none others other (answers f' s' l own a f) =
        absurd (answers_or_needs own a fid (one_result l looked _ _ f e))
    at_missing why none others other (fails f' s' l g because f missing) =
        let look = one_look looked l _ _ e f in
        let same : fid ≡ g = one_need fid g (one_result looked l _ _ e f) in
        let cause : why ≡ because = one_fault why because (sym none ∙ ap sources same ∙ missing) in
        ((λ i. Looked (look i) ∷ []), ap (λ w. call.refused (Because w)) cause)
    at_missing why none others other (turned f' s' l g node server full f given is_full) =
        let same : fid ≡ g = one_need fid g (one_result looked l _ _ e f) in
        absurd (never_both (node, server) why (sym given ∙ ap sources (sym same) ∙ none))
    at_missing why none others other (again f' s' l g node server gone later a f given room rest) =
        let same : fid ≡ g = one_need fid g (one_result looked l _ _ e f) in
        absurd (never_both (node, server) why (sym given ∙ ap sources (sym same) ∙ none))

    module _ (node : Node) (server : ℕ) (given : sources fid ≡ Ok (node, server)) where
      -- what goes for what is needed, or why there is no room, as other rounds have it
      abbrev room_for : List Fid → Fid → Node → Result (List Fid) CacheFault
      room_for looks g n = goes_for_fetch (serving_after s (Looked looks)) g n fetched

      same_room : (l : List Fid) (g : Fid) (n : Node) → looked ≡ l → fid ≡ g → node ≡ n
          → room_for looked fid node ≡ room_for l g n
      same_room l g n look same given_same = λ i. room_for (look i) (same i) (given_same i)

      -- what other rounds fetch is this
      one_fetch : (l : List Fid) (g : Fid) (n : Node) (m : ℕ)
          → call.turn fetched s ≡ record { looked = l; comes_to = Needs g } → sources g ≡ Ok (n, m)
          → (looked ≡ l) × (fid ≡ g) × (node ≡ n) × (server ≡ m)
      one_fetch l g n m f there =
          let same : fid ≡ g = one_need fid g (one_result looked l _ _ e f) in
          let both : (node, server) ≡ (n, m) = one_value (node, server) (n, m) (sym given ∙ ap sources same ∙ there) in
          (one_look looked l _ _ e f, same, ap (λ (p : Node × ℕ). p.0) both, ap (λ (p : Node × ℕ). p.1) both)

      -- the rounds behind a fetch
      abbrev Behind : List Fid → Fid → Node → ℕ → List Fid → List RoundStep → A → Type 0
      Behind l g n m went after a =
          Rounds sources call (fetched ++ g ∷ [])
          (serving_after (serving_after s (Looked l)) (Installed went g (parent_of_fetched s.client.held g) n m)) after
          a

      -- that needs what there is no room for
      at_full : (why : CacheFault) → room_for looked fid node ≡ Err why → (others : List RoundStep) (other : A)
          → Rounds sources call fetched s others other
          → (Looked looked ∷ Turned fid server ∷ [] ≡ others) × (call.refused (why_full why) ≡ other)
      at_full why full others other (answers f' s' l own a f) =
          absurd (answers_or_needs own a fid (one_result l looked _ _ f e))
      at_full why full others other (fails f' s' l g because f missing) =
          let same : fid ≡ g = one_need fid g (one_result looked l _ _ e f) in
          absurd (never_both (node, server) because (sym given ∙ ap sources same ∙ missing))
      at_full why full others other (turned f' s' l g n m because f there is_full) =
          let is = one_fetch l g n m f there in
          let cause : why ≡ because = one_fault why because (sym full ∙ same_room l g n is.0 is.1 is.2 ∙ is_full) in
          ((λ i. Looked (is.0 i) ∷ Turned (is.1 i) (is.3 i) ∷ []), ap (λ w. call.refused (why_full w)) cause)
      at_full why full others other (again f' s' l g n m gone later a f there room rest) =
          let is = one_fetch l g n m f there in
          absurd (never_both gone why (sym room ∙ sym (same_room l g n is.0 is.1 is.2) ∙ full))

      -- that fetches it, and is made again, where that is one
      at_fetch : (gone : List Fid) (later : List RoundStep) (answer : A) → room_for looked fid node ≡ Ok gone
          → ((others : List RoundStep) (other : A) → Behind looked fid node server gone others other
          → (later ≡ others) × (answer ≡ other))
          → (others : List RoundStep) (other : A) → Rounds sources call fetched s others other
          → (Looked looked ∷ Installed gone fid (parent_of_fetched s.client.held fid) node server ∷ later ≡ others)
          × (answer ≡ other)
      at_fetch gone later answer room one others other (answers f' s' l own a f) =
          absurd (answers_or_needs own a fid (one_result l looked _ _ f e))
      at_fetch gone later answer room one others other (fails f' s' l g because f missing) =
          let same : fid ≡ g = one_need fid g (one_result looked l _ _ e f) in
          absurd (never_both (node, server) because (sym given ∙ ap sources same ∙ missing))
      at_fetch gone later answer room one others other (turned f' s' l g n m because f there full) =
          let is = one_fetch l g n m f there in
          absurd (never_both gone because (sym room ∙ same_room l g n is.0 is.1 is.2 ∙ full))
      at_fetch gone later answer room one others other (again f' s' l g n m went after a f there room_then rest) =
          let is = one_fetch l g n m f there in
          let same : gone ≡ went = one_value gone went (sym room ∙ same_room l g n is.0 is.1 is.2 ∙ room_then) in
          let moved : Behind looked fid node server gone after a ≡ Behind l g n m went after a =
          (λ i. Behind (is.0 i) (is.1 i) (is.2 i) (is.3 i) (same i) after a) in
          let more = one after a (subst (λ (T : Type 0). T) (sym moved) rest) in (
            (λ i. Looked (is.0 i)
                ∷ Installed (same i) (is.1 i) (parent_of_fetched s.client.held (is.1 i)) (is.2 i) (is.3 i)
                ∷ more.0 i),
            more.1,
          )

-- whatever the answers are
pub rounds_are_one : {A : Type 0} (sources : Sources) (call : ClientCall A) (fetched : List Fid) (s : ServingClient)
    (steps others : List RoundStep) (answer other : A) → Rounds sources call fetched s steps answer
    → Rounds sources call fetched s others other → (steps ≡ others) × (answer ≡ other)
rounds_are_one {A} sources call fetched s steps others answer other (answers f' s' looked own a e) second =
    at_answer A sources call fetched s looked own a e others other second
rounds_are_one {A} sources call fetched s steps others answer other (fails f' s' looked fid why e none) second =
    at_missing A sources call fetched s looked fid e why none others other second
rounds_are_one {A} sources call fetched s steps others answer other
    (turned f' s' looked fid node server why e given full) second =
    at_full A sources call fetched s looked fid e node server given why full others other second
rounds_are_one {A} sources call fetched s steps others answer other
    (again f' s' looked fid node server gone later a e given room rest) second =
    at_fetch A sources call fetched s looked fid e node server given gone later a room
    (λ more told third. rounds_are_one sources call (fetched ++ fid ∷ [])
    (serving_after (serving_after s (Looked looked))
    (Installed gone fid (parent_of_fetched s.client.held fid) node server)) later more a told rest third)
    others other second

pub rounds_are_one_law : RoundsAreOne
rounds_are_one_law sources call fetched s steps others answer other first second =
    rounds_are_one sources call fetched s steps others answer other first second
