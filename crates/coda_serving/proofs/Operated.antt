-- An operation is answered as the client on a disk performs it.
use Rattle.std.proofs.Common.{◌≡◌, ℕ, ◌+◌, Bool, true, false, cond, List, [], ◌∷◌, ◌++◌, Option, Some, None, Result, Ok, Err, refl, sym, ap, ◌∙◌, subst, inl, inr}
use Rattle.std.specs.Prelude.{IsSome, nat_le}
use Rattle.coda_fid.specs.Fid.{root_of}
use Rattle.coda_fid.specs.declared.fid.Fid.{Fid}
use Rattle.coda_fid.specs.declared.op.Op.{Op}
use Rattle.coda_fid.specs.declared.op.Record.{Record}
use Rattle.coda_tree.proofs.Parents.{parent_complete}
use Rattle.coda_tree.specs.Volume.{Nodes, parent_of}
use Rattle.coda_tree.specs.declared.node.Node.{Node}
use Rattle.coda_cancel.specs.Cancel.{add, added, fold}
use Rattle.coda_cancel.specs.Weights.{fits}
use Rattle.coda_plain.specs.Cell.{ClientEntry, Fetched, Did}
use Rattle.coda_plain.specs.Deeds.{Operated}
use Rattle.coda_script.specs.declared.reply.Reply.TheVariants as reply
use Rattle.coda_venus.specs.Accepting as venus_accepting
use Rattle.coda_venus.specs.Ask.{Asked as VenusAsked, too_big as venus_too_big}
use Rattle.coda_venus.specs.Code as venus_code
use Rattle.coda_venus.specs.Keeping.{record_of, unless_full, operation_unless, operation, done_of}
use Rattle.coda_venus.specs.Looking as venus_looking
use Rattle.coda_venus.specs.State.{ClientState as VenusState, ClientVolume as VenusVolume}
use Rattle.coda_venus.specs.declared.refused.Refused.{Refused as VenusRefused}
use Rattle.coda_venus.specs.declared.refused.Refused.TheVariants as venus
use Rattle.coda_serving.specs.Answering.{operating}
use Rattle.coda_serving.specs.Fetching.{offered, IsFetchable}
use Rattle.coda_cell.specs.Accepting.{sight_of}
use Rattle.coda_venus.specs.Accepting.{Accepted, accept}
use Rattle.coda_venus.specs.Ask.{Asked, object_of}
use Rattle.coda_cell.specs.Asking.{Answer, answers, look_ups, behind_fetches, next_record, has_room, is_full, answer_to, operate_unless, operate}
use Rattle.coda_cell.specs.Held.{Fetch}
use Rattle.coda_cell.specs.Looking.{entries_of}
use Rattle.coda_cell.specs.Looking as cell_looking
use Rattle.coda_cell.specs.State.{ClientVolume, ClientState, client_after}
use Rattle.coda_cell.specs.Refused as refused
use Rattle.coda_cell.proofs.Unlooked.{MissesNothing, no_look_ups}
use Rattle.coda_matching.specs.Clients.{IsOneVolume, journal_by}
use Rattle.coda_cell.specs.Refusing.{client_refused_as}
use Rattle.coda_serving.specs.Serving.{AreSpelledOffers, IsDone}
use Rattle.coda_serving.proofs.Answers.{AnswersAs, Gives, NeedsNothing, behind, fetch_by}
use Rattle.coda_serving.proofs.Missed.{walk_misses}
use Rattle.coda_serving.proofs.Needed.{IsMissing, walk, walk_missing, look_ups_first, look_ups_none}
use Rattle.coda_serving.proofs.Pairs.{IsPair, nodes_are, sight_is}

-- ---- what is offered

-- both offer the same
pub offers_are : (offers : Option Nodes) (fid : Fid) → cell_looking.offered offers fid ≡ offered offers fid
offers_are None fid = refl
offers_are (Some m) fid = refl

-- what is missing, and offered, can be fetched
pub is_fetchable : (offers : Option Nodes) (m : Nodes) (volume : ℕ) (fid : Fid) (node : Node) → AreSpelledOffers offers → IsMissing m volume fid → offered offers fid ≡ Some node → IsFetchable offers m fid node
is_fetchable offers m volume fid node spelled missing offer = record {
  offer = offer;
  spelled = spelled fid node offer;
  missed = record {
    absent = missing.absent;
    place = elim missing.place [
      | inl root ↦ inl (root ∙ ap (λ (f : Fid). root_of f.volume) (sym root))
      | inr bound ↦ inr (let parent = parent_complete m bound.0 bound.1 fid bound.2 in subst IsSome (sym parent.1) refl)
    ];
  };
}

-- so what can't be fetched isn't offered
pub not_offered : (offers : Option Nodes) (m : Nodes) (volume : ℕ) (fid : Fid) → AreSpelledOffers offers → IsMissing m volume fid → ((node : Node) → ¬ IsFetchable offers m fid node) → cell_looking.offered offers fid ≡ None
not_offered offers m volume fid spelled missing unfetchable = offers_are offers fid ∙ by (offered offers fid) refl
  where
    by : (o : Option Node) → offered offers fid ≡ o → offered offers fid ≡ None
    by None is = is
    by (Some node) is = absurd (unfetchable node (is_fetchable offers m volume fid node spelled missing is))

-- ---- the log of a volume

added_push : (rs run : List Record) (rec : Record) → added rs (run ++ rec ∷ []) ≡ add (added rs run) rec
added_push rs [] rec = refl
added_push rs (x ∷ run) rec = added_push (add rs x) run rec

module _ (v : ClientVolume) (w : VenusVolume) (one : IsOneVolume v w) where
  record_is : (time : ℕ) (op : Op) → record_of w time op ≡ next_record v time op
  record_is time op = λ i. record { number = (one.log i).last + 1; time = time; op = op }

  room_is : (rec : Record) → venus_code.has_room w rec ≡ has_room v rec
  room_is rec = (λ i. fits 4096 16777216 ((one.log i).chunk ++ add (one.log i).records rec)) ∙ ap (λ l. fits 4096 16777216 (fold v.front ++ l)) (sym (added_push [] v.back rec))

  full_is : venus_code.is_full w ≡ is_full v
  full_is = λ i. nat_le 4294967295 (one.log i).last

-- ---- what an operation comes to

pub venus_err : {A : Type 0} (x y : VenusRefused) → (let err : VenusRefused → Result A VenusRefused = λ z. Err z in err x ≡ err y) → x ≡ y
venus_err x y e = cc

pub ok_is : {A : Type 0} (x y : A) → (let ok : A → Result A VenusRefused = λ z. Ok z in ok x ≡ ok y) → x ≡ y
ok_is x y e = cc

-- an operation was refused: its content is too long; or by acceptance; or the log or the journal is full
data IsRefusedFor (w : VenusVolume) (accepted : Result Op VenusRefused) (big : Option ℕ) (time : ℕ) (why : VenusRefused) : Type 0 where
  Long : (length : ℕ) → big ≡ Some length → why ≡ venus.TooBig length → IsRefusedFor w accepted big time why
  Unaccepted : big ≡ None → accepted ≡ Err why → IsRefusedFor w accepted big time why
  Full : (o : Op) → big ≡ None → accepted ≡ Ok o → unless_full w (record_of w time o) ≡ Err why → IsRefusedFor w accepted big time why

module _ (volume time : ℕ) (ask : VenusAsked) (d : VenusState) where
  abbrev accepted : Result Op VenusRefused
  accepted = venus_accepting.accept (venus_accepting.sight_of d volume) volume ask

  abbrev there : VenusVolume
  there = d.volumes volume

  refused_for : (why : VenusRefused) → operation d time volume ask ≡ Err why → IsRefusedFor there accepted (venus_too_big ask) time why
  refused_for why is = by (venus_too_big ask) refl is
    where
      so : (r : Result Op VenusRefused) → accepted ≡ r → venus_too_big ask ≡ None → venus_looking.then_find r (λ o. unless_full there (record_of there time o)) ≡ Err why → IsRefusedFor there accepted (venus_too_big ask) time why
      so (Err e) r none x = Unaccepted none (r ∙ ap Err (venus_err {A = Record} e why x))
      so (Ok o) r none x = Full o none r x

      by : (o : Option ℕ) → venus_too_big ask ≡ o → operation_unless o d time volume ask ≡ Err why → IsRefusedFor there accepted (venus_too_big ask) time why
      by (Some n) big x = Long n big (sym (venus_err {A = Record} (venus.TooBig n) why x))
      by None none x = so accepted refl none x

  -- an operation is performed: it is accepted, and there is room for it
  record IsPerformed (rec : Record) : Type 0 where
    op : Op
    short : venus_too_big ask ≡ None
    takes : accepted ≡ Ok op
    is : record_of there time op ≡ rec
    room : venus_code.has_room there (record_of there time op) ≡ true
    few : venus_code.is_full there ≡ false

  performed : (rec : Record) → operation d time volume ask ≡ Ok rec → IsPerformed rec
  performed rec is = by (venus_too_big ask) refl is
    where
      rooms : (o : Op) (room full : Bool) → venus_too_big ask ≡ None → accepted ≡ Ok o → venus_code.has_room there (record_of there time o) ≡ room → venus_code.is_full there ≡ full
          → (let r : Result Record VenusRefused = cond room (cond full (Err venus.JournalFull) (Ok (record_of there time o))) (Err venus.LogFull) in r ≡ Ok rec) → IsPerformed rec
      rooms o true true none takes room full x = cc
      rooms o true false none takes room full x = record { op = o; short = none; takes = takes; is = ok_is (record_of there time o) rec x; room = room; few = full }
      rooms o false full none takes room is_full x = cc

      so : (r : Result Op VenusRefused) → accepted ≡ r → venus_too_big ask ≡ None → venus_looking.then_find r (λ o. unless_full there (record_of there time o)) ≡ Ok rec → IsPerformed rec
      so (Err e) r none x = cc
      so (Ok o) r none x = rooms o (venus_code.has_room there (record_of there time o)) (venus_code.is_full there) none r refl refl x

      by : (o : Option ℕ) → venus_too_big ask ≡ o → operation_unless o d time volume ask ≡ Ok rec → IsPerformed rec
      by (Some n) big x = cc
      by None none x = so accepted refl none x

-- ---- what is answered

-- what is answered to an operation that is accepted, by whether there is room for it in the log and in the journal
abbrev made : List ClientEntry → ClientVolume → ℕ → Op → Record → Bool → Bool → Answer
made l v volume o rec room full = cond room (cond full (answers l (Err refused.JournalFull)) (answers (l ++ Did volume (Operated rec) ∷ []) (Ok (reply.Done (v.operations + 1) (object_of o))))) (answers l (Err refused.LogFull))

made_behind : (e : ClientEntry) (entries : List ClientEntry) (v : ClientVolume) (volume : ℕ) (o : Op) (rec : Record) (room full : Bool) → made (e ∷ entries) v volume o rec room full ≡ behind (e ∷ []) (made entries v volume o rec room full)
made_behind e entries v volume o rec true true = refl
made_behind e entries v volume o rec true false = refl
made_behind e entries v volume o rec false full = refl

-- what was fetched first stands in front of an answer
answer_behind : (e : ClientEntry) (entries : List ClientEntry) (v : ClientVolume) (time volume : ℕ) (r : Accepted) → answer_to (e ∷ entries) v time volume r ≡ behind (e ∷ []) (answer_to entries v time volume r)
answer_behind e entries v time volume (Err why) = refl
answer_behind e entries v time volume (Ok o) = made_behind e entries v volume o (next_record v time o) (has_room v (next_record v time o)) (is_full v)

-- a log or a journal that is full is told so
made_full : (v : ClientVolume) (volume : ℕ) (o : Op) (rec next : Record) (why : VenusRefused) (room full : Bool)
    → (let r : Result Record VenusRefused = cond room (cond full (Err venus.JournalFull) (Ok next)) (Err venus.LogFull) in r ≡ Err why) → made [] v volume o rec room full ≡ answers [] (Err (client_refused_as why))
made_full v volume o rec next why true true x = ap (λ w. answers [] (Err (client_refused_as w))) (venus_err {A = Record} venus.JournalFull why x)
made_full v volume o rec next why true false x = cc
made_full v volume o rec next why false full x = ap (λ w. answers [] (Err (client_refused_as w))) (venus_err {A = Record} venus.LogFull why x)

-- and for no object
full_never : (w : VenusVolume) (rec : Record) (fid : Fid) → unless_full w rec ≡ Err (venus.Need fid) → ⊥
full_never w rec fid x = by (venus_code.has_room w rec) (venus_code.is_full w) x
  where
    by : (room full : Bool) → (let r : Result Record VenusRefused = cond room (cond full (Err venus.JournalFull) (Ok rec)) (Err venus.LogFull) in r ≡ Err (venus.Need fid)) → ⊥
    by true true x = cc
    by true false x = cc
    by false full x = cc

-- a refusal that needs nothing misses nothing
pub misses_nothing : (why : VenusRefused) → NeedsNothing why → (let r : Accepted = Err why in MissesNothing r)
misses_nothing venus.Down n = tt
misses_nothing (venus.TooBig length) n = tt
misses_nothing venus.NotFound n = tt
misses_nothing venus.NotDir n = tt
misses_nothing venus.Exists n = tt
misses_nothing venus.IsDir n = tt
misses_nothing venus.NotFile n = tt
misses_nothing venus.NotEmpty n = tt
misses_nothing venus.Loop n = tt
misses_nothing (venus.Need fid) n = absurd n
misses_nothing venus.LogFull n = tt
misses_nothing venus.JournalFull n = tt
misses_nothing venus.DiskFault n = tt
misses_nothing (venus.Frozen number home) n = tt
misses_nothing venus.Nothing n = tt
misses_nothing (venus.Young age window) n = tt
misses_nothing (venus.NotFrozen number) n = tt
misses_nothing (venus.WrongNumber frozen number) n = tt
misses_nothing venus.Memory n = tt

module _ (offers : Option Nodes) (spelled : AreSpelledOffers offers) (time volume : ℕ) (ask : VenusAsked) where
  -- what is answered behind these fetches
  abbrev with_fetches : ClientState → List Fetch → Answer
  with_fetches c l = answer_to (entries_of l) (c.volumes volume) time volume (accept (sight_of (behind_fetches c l) volume) volume ask)

  -- content that isn't too long is looked up
  looks_up : (c : ClientState) → venus_too_big ask ≡ None → operate offers c time volume ask ≡ with_fetches c (look_ups offers c.held volume ask)
  unfolding operate
  looks_up c short = ap (λ big. operate_unless big offers c time volume ask) short

  too_long : (c : ClientState) (n : ℕ) → venus_too_big ask ≡ Some n → operate offers c time volume ask ≡ answers [] (Err (refused.TooBig n))
  unfolding operate
  too_long c n long = ap (λ big. operate_unless big offers c time volume ask) long

  module _ (c : ClientState) (d : VenusState) (pair : IsPair c d) where
    -- both accept the same
    accepts : (r : Result Op VenusRefused) → accepted volume time ask d ≡ r → accept (sight_of c volume) volume ask ≡ r
    accepts r is = ap (λ s. accept s volume ask) (sight_is c d volume pair.one) ∙ is

    -- what acceptance needs, the walk misses
    walks : (fid : Fid) → accepted volume time ask d ≡ Err (venus.Need fid) → walk c.held.nodes volume ask ≡ Err (venus.Need fid)
    walks fid is = walk_misses (sight_of c volume) volume fid ask (accepts (Err (venus.Need fid)) is)

    -- what needs nothing looks nothing up
    at_once : (r : Result Op VenusRefused) → venus_too_big ask ≡ None → accepted volume time ask d ≡ r → MissesNothing r → operate offers c time volume ask ≡ answer_to [] (c.volumes volume) time volume r
    at_once r short is nothing =
        let seen = accepts r is in
        let none = no_look_ups offers (sight_of c volume) volume ask (subst MissesNothing (sym seen) nothing) in
        looks_up c short ∙ ap (with_fetches c) none ∙ ap (answer_to [] (c.volumes volume) time volume) seen

    -- an object that is needed is needed by acceptance
    needed : (fid : Fid) → operation d time volume ask ≡ Err (venus.Need fid) → (venus_too_big ask ≡ None) × (accepted volume time ask d ≡ Err (venus.Need fid))
    needed fid is = by (refused_for volume time ask d (venus.Need fid) is)
      where
        by : IsRefusedFor (d.volumes volume) (accepted volume time ask d) (venus_too_big ask) time (venus.Need fid) → (venus_too_big ask ≡ None) × (accepted volume time ask d ≡ Err (venus.Need fid))
        by (Long n big why) = cc
        by (Unaccepted short e) = (short, e)
        by (Full o short takes full) = absurd (full_never (d.volumes volume) (record_of (d.volumes volume) time o) fid full)

    missing : (fid : Fid) → accepted volume time ask d ≡ Err (venus.Need fid) → IsMissing c.held.nodes volume fid
    missing fid need = walk_missing c.held.nodes volume ask fid (walks fid need)

    needs : (fid : Fid) (node : Node) → operation d time volume ask ≡ Err (venus.Need fid) → IsFetchable offers d.held.nodes fid node
        → operate offers c time volume ask ≡ behind (fetch_by d fid node ∷ []) (operate offers (client_after c (fetch_by d fid node)) time volume ask)
    needs fid node is can =
        let need = needed fid is in
        let miss = walks fid need.1 in
        let e = Fetched fid (parent_of c.held.nodes fid) node in
        let first = look_ups_first offers c.held fid node (offers_are offers fid ∙ can.offer) (missing fid need.1).absent volume ask miss in
        looks_up c need.0 ∙ ap (with_fetches c) first
        ∙ answer_behind e _ (c.volumes volume) time volume _
        ∙ ap (behind (e ∷ [])) (sym (looks_up (client_after c e) need.0))
        ∙ ap (λ (m : Nodes). behind (Fetched fid (parent_of m fid) node ∷ []) (operate offers (client_after c (Fetched fid (parent_of m fid) node)) time volume ask)) (sym (nodes_are c d pair))

    lacks : (fid : Fid) → operation d time volume ask ≡ Err (venus.Need fid) → ((node : Node) → ¬ IsFetchable offers d.held.nodes fid node) → operate offers c time volume ask ≡ answers [] (Err (refused.Miss fid))
    lacks fid is unfetchable =
        let need = needed fid is in
        let gone = not_offered offers d.held.nodes volume fid spelled (subst (λ m. IsMissing m volume fid) (sym (nodes_are c d pair)) (missing fid need.1)) unfetchable in
        let none = look_ups_none offers c.held fid gone volume ask (walks fid need.1) in
        looks_up c need.0 ∙ ap (with_fetches c) none ∙ ap (answer_to [] (c.volumes volume) time volume) (accepts (Err (venus.Need fid)) need.1)

    -- what is answered to an operation that is accepted
    is_made : (o : Op) → venus_too_big ask ≡ None → accepted volume time ask d ≡ Ok o
        → operate offers c time volume ask ≡ made [] (c.volumes volume) volume o (next_record (c.volumes volume) time o) (venus_code.has_room (d.volumes volume) (record_of (d.volumes volume) time o)) (venus_code.is_full (d.volumes volume))
    is_made o short takes =
        let v = c.volumes volume in
        let w = d.volumes volume in
        let one = pair.one.volumes volume in
        at_once (Ok o) short takes tt
        ∙ (λ i. made [] v volume o (next_record v time o) (sym (room_is v w one (next_record v time o)) i) (sym (full_is v w one) i))
        ∙ ap (λ r. made [] v volume o (next_record v time o) (venus_code.has_room w r) (venus_code.is_full w)) (sym (record_is v w one time o))

    refuses : (why : VenusRefused) → operation d time volume ask ≡ Err why → NeedsNothing why → operate offers c time volume ask ≡ answers [] (Err (client_refused_as why))
    refuses why is other = by (refused_for volume time ask d why is)
      where
        by : IsRefusedFor (d.volumes volume) (accepted volume time ask d) (venus_too_big ask) time why → operate offers c time volume ask ≡ answers [] (Err (client_refused_as why))
        by (Long n big same) = too_long c n big ∙ ap (λ w. answers [] (Err (client_refused_as w))) (sym same)
        by (Unaccepted short e) = at_once (Err why) short e (misses_nothing why other)
        by (Full o short takes full) = is_made o short takes ∙ made_full (c.volumes volume) volume o (next_record (c.volumes volume) time o) (record_of (d.volumes volume) time o) why _ _ full

    gives : (before : List Fid) (rec : Record) → operation d time volume ask ≡ Ok rec → Gives (operating time volume ask) IsDone before rec (operate offers c time volume ask)
    gives before rec is =
        let p = performed volume time ask d rec is in
        let v = c.volumes volume in
        let next : next_record v time p.op ≡ rec = sym (record_is v (d.volumes volume) (pair.one.volumes volume) time p.op) ∙ p.is in
        record {
          reply = reply.Done (v.operations + 1) (object_of p.op);
          entries = Did volume (Operated (next_record v time p.op)) ∷ [];
          is = is_made p.op p.short p.takes ∙ (λ i. made [] v volume p.op (next_record v time p.op) (p.room i) (p.few i));
          kept = ap (λ r. journal_by (Did volume (Operated r) ∷ [])) next;
          says = ap (λ (r : Record). reply.Done (done_of r).number (done_of r).fid) next;
        }

  -- an operation is answered as the client on a disk performs it
  pub operates : AnswersAs offers (operating time volume ask) IsDone (λ before c. operate offers c time volume ask)
  operates = record {
    needs = λ c d pair before fid node is can. needs c d pair fid node is can;
    lacks = λ c d pair before fid is unfetchable. lacks c d pair fid is unfetchable;
    refuses = λ c d pair before why is other. refuses c d pair why is other;
    gives = λ c d pair before rec is. gives c d pair before rec is;
  }
