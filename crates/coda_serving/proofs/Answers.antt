-- What a client of a cell answers, where the one on a disk fetches what it needs, and how that ends.
use Rattle.std.proofs.Common.{◌≡◌, ◌+◌, ◌<◌, List, [], ◌∷◌, ◌++◌, append-nil, append_assoc, length, Option, Some, Result, Ok, Err, refl, sym, ap, ◌∙◌, subst, inl, inr}
use Rattle.std.specs.Int.{w32}
use Rattle.std.proofs.lemmas.List.{map-append}
use Rattle.coda_disk.specs.Told.{Told}
use Rattle.coda_fid.specs.declared.fid.Fid.{Fid}
use Rattle.coda_tree.specs.Volume.{Nodes, parent_of}
use Rattle.coda_tree.specs.declared.node.Node.{Node}
use Rattle.coda_journal.specs.Entries.{blocks, framed}
use Rattle.coda_journal.specs.declared.header.Header.{Header}
use Rattle.coda_plain.specs.Cell.{ClientEntry, Fetched}
use Rattle.coda_script.specs.declared.reply.Reply.{Reply}
use Rattle.coda_venus.specs.History.{Payload, payload_of, payloads_of, state_of}
use Rattle.coda_venus.specs.Keeping.{IsFull}
use Rattle.coda_venus.specs.Standing.{IsUp, StandsFor}
use Rattle.coda_venus.specs.State.{ClientState as VenusState, client_after_all as venus_after_all}
use Rattle.coda_venus.specs.declared.refused.Refused.{Refused as VenusRefused}
use Rattle.coda_venus.specs.declared.refused.Refused.TheVariants as venus
use Rattle.coda_venus.specs.declared.venus.Venus.{Venus}
use Rattle.coda_serving.specs.Answering.{Call, IsNext, LacksRoom as LacksRoomFor, Ends as EndsSo}
use Rattle.coda_serving.specs.Fetching.{IsFetchable, IsFetch, Fetches}
use Rattle.coda_serving.specs.Laws.{after_payloads}
use Rattle.coda_cell.specs.Asking.{Answer, answers}
use Rattle.coda_cell.specs.Made.{client_of}
use Rattle.coda_cell.specs.State.{ClientState, client_after, client_after_all}
use Rattle.coda_cell.specs.Refused as refused
use Rattle.coda_matching.specs.Clients.{payload_by, journal_by, LacksRoom, Ends}
use Rattle.coda_cell.specs.Refusing.{client_refused_as}
use Rattle.coda_serving.proofs.Pairs.{IsPair, parent_is, pair_fetched}

-- an answer behind other entries
abbrev pub behind : List ClientEntry → Answer → Answer
behind entries a = answers (entries ++ a.entries) a.said

-- the entry of a fetch: its parent is the first directory that binds it
abbrev pub fetch_by : VenusState → Fid → Node → ClientEntry
fetch_by d fid node = Fetched fid (parent_of d.held.nodes fid) node

-- no object is needed
abbrev pub NeedsNothing : VenusRefused → Type 0
NeedsNothing (venus.Need fid) = ⊥
NeedsNothing why = Unit {0}

-- what a client of a cell answers, by the objects that were fetched for it already
abbrev pub Answering : Type 0
Answering = List Fid → ClientState → Answer

-- the client of a cell gives the answer that is to be kept
pub record Gives {A R : Type 0} (call : Call A R) (IsAs : Reply → R → Type 0) (before : List Fid) (x : A) (answer : Answer) : Type 0 where
  pub reply : Reply
  pub entries : List ClientEntry
  pub is : answer ≡ answers entries (Ok reply)
  pub kept : journal_by entries ≡ call.keeps x
  pub says : IsAs reply (call.answers before x)

-- A client of a cell answers as a call of the one on a disk comes out: an object that the call needs is fetched first, where it can be; it
-- refuses for the same reason; and it adds what the call keeps.
pub record AnswersAs {A R : Type 0} (offers : Option Nodes) (call : Call A R) (IsAs : Reply → R → Type 0) (answer : Answering) : Type 0 where
  pub needs : (c : ClientState) (d : VenusState) → IsPair c d → (before : List Fid) (fid : Fid) (node : Node) → call.comes d ≡ Err (venus.Need fid) → IsFetchable offers d.held.nodes fid node
      → answer before c ≡ behind (fetch_by d fid node ∷ []) (answer (before ++ fid ∷ []) (client_after c (fetch_by d fid node)))
  pub lacks : (c : ClientState) (d : VenusState) → IsPair c d → (before : List Fid) (fid : Fid) → call.comes d ≡ Err (venus.Need fid) → ((node : Node) → ¬ IsFetchable offers d.held.nodes fid node)
      → answer before c ≡ answers [] (Err (refused.Miss fid))
  pub refuses : (c : ClientState) (d : VenusState) → IsPair c d → (before : List Fid) (why : VenusRefused) → call.comes d ≡ Err why → NeedsNothing why → answer before c ≡ answers [] (Err (client_refused_as why))
  pub gives : (c : ClientState) (d : VenusState) → IsPair c d → (before : List Fid) (x : A) → call.comes d ≡ Ok x → Gives call IsAs before x (answer before c)

-- ---- what was fetched

-- Objects were fetched for a call: both are one client behind them, and what is answered is what they add and what it answers then.
pub record IsBehind (answer : Answering) (before : List Fid) (c : ClientState) (d : VenusState) (fids : List Fid) (payloads : List Payload) : Type 0 where
  pub entries : List ClientEntry
  pub kept : payloads ≡ journal_by entries
  pub pair : IsPair (client_after_all c entries) (after_payloads d payloads)
  pub is : answer before c ≡ behind entries (answer (before ++ fids) (client_after_all c entries))

module _ {A R : Type 0} (offers : Option Nodes) (call : Call A R) (IsAs : Reply → R → Type 0) (answer : Answering) (does : AnswersAs offers call IsAs answer) where
  -- one fetch
  fetch_is : (c : ClientState) (d : VenusState) (fid : Fid) (payload : Payload) → IsPair c d → (is : IsFetch offers call.comes d fid payload) → payload ≡ payload_by (fetch_by d fid is.node)
  fetch_is c d fid payload pair is = is.is ∙ ap (λ p. payload_by (Fetched fid p is.node)) (parent_is d.held fid pair.orphans is.can.missed.absent)

  pub fetched : (before : List Fid) (c : ClientState) (d : VenusState) (fids : List Fid) (payloads : List Payload) → IsPair c d → Fetches offers call.comes d fids payloads → IsBehind answer before c d fids payloads
  fetched before c d [] [] pair are = record { entries = []; kept = refl; pair = pair; is = ap (λ l. answer l c) (sym (append-nil before)) }
  fetched before c d [] (payload ∷ payloads) pair are = absurd are
  fetched before c d (fid ∷ fids) [] pair are = absurd are
  fetched before c d (fid ∷ fids) (payload ∷ payloads) pair are =
      let is = are.0 in
      let e = fetch_by d fid is.node in
      let kept = fetch_is c d fid payload pair is in
      let next : IsPair (client_after c e) (venus_after_all d payload) = subst (λ p. IsPair (client_after c e) (venus_after_all d p)) (sym kept) (pair_fetched c d fid (parent_of d.held.nodes fid) is.node pair) in
      let rest = fetched (before ++ fid ∷ []) (client_after c e) (venus_after_all d payload) fids payloads next are.1 in
      record {
        entries = e ∷ rest.entries;
        kept = λ i. kept i ∷ rest.kept i;
        pair = rest.pair;
        is = does.needs c d pair before fid is.node is.needed is.can ∙ ap (behind (e ∷ [])) rest.is ∙ ap (λ l. behind (e ∷ rest.entries) (answer l (client_after_all (client_after c e) rest.entries))) (append_assoc before (fid ∷ []) fids);
      }

  -- ---- what was to be kept next

  -- the entry that stands next, for a payload that the call is to keep next
  record IsNextEntry (before : List Fid) (c : ClientState) (payload : Payload) : Type 0 where
    next : ClientEntry
    rest : List ClientEntry
    kept : payload ≡ payload_by next
    is : (answer before c).entries ≡ next ∷ rest

  next_kept : (before : List Fid) (c : ClientState) (payload : Payload) (entries : List ClientEntry) → (answer before c).entries ≡ entries → journal_by entries ≡ payload ∷ [] → IsNextEntry before c payload
  next_kept before c payload [] is kept = cc
  next_kept before c payload (e ∷ entries) is kept = record { next = e; rest = entries; kept = heads payload (payload_by e) (journal_by entries) (sym kept); is = is }
    where
      heads : (p q : Payload) (l : List Payload) → p ∷ [] ≡ q ∷ l → p ≡ q
      heads p q l same = cc

  next_entry : (before : List Fid) (c : ClientState) (d : VenusState) (payload : Payload) → IsPair c d → IsNext offers call d payload → IsNextEntry before c payload
  next_entry before c d payload pair (inl f) =
      let is = f.1 in
      record { next = fetch_by d f.0 is.node; rest = _; kept = fetch_is c d f.0 payload pair is; is = ap (λ (a : Answer). a.entries) (does.needs c d pair before f.0 is.node is.needed is.can) }
  next_entry before c d payload pair (inr own) =
      let g = does.gives c d pair before own.0 own.1 in
      next_kept before c payload g.entries (ap (λ (a : Answer). a.entries) g.is) (g.kept ∙ own.2)

  -- ---- how it ends

  module _ {D : Type 0} (told : D → Told) (header : Header) (past : List ClientEntry) (fids : List Fid) (new : Venus D) (pair : IsPair (client_of header.number past header.cache) (state_of header (journal_by past))) where
    abbrev here : ClientState
    here = client_of header.number past header.cache

    abbrev there : VenusState
    there = state_of header (journal_by past)

    -- no room in the journal is no room behind the history
    full_is : (payload : Payload) (e : ClientEntry) → payload ≡ payload_by e → IsFull new.journal payload → IsUp told header new (journal_by past) → LacksRoom header past e
    full_is payload e kept full up =
        subst (λ area. area < length (blocks w32 (payloads_of (journal_by past))) + length (framed w32 (payload_of (payload_by e)))) up.journal.size
        (subst (λ used. new.journal.area < used + length (framed w32 (payload_of (payload_by e)))) up.journal.counts (subst (λ p. new.journal.area < new.journal.used + length (framed w32 (payload_of p))) kept full))

    -- what was said is what the client of a cell says
    abbrev EndsAs : Answer → Result R VenusRefused → Type 0
    EndsAs a result = Ends told header past a.entries a.said IsAs new result

    nothing_more : IsUp told header new (journal_by past) → IsUp told header new (journal_by (past ++ []))
    nothing_more up = subst (λ l. IsUp told header new (journal_by l)) (sym (append-nil past)) up

    answered : (r : R) → EndsSo told header offers call (journal_by past) fids new (Ok r) → EndsAs (answer fids here) (Ok r)
    answered r e =
        let g = does.gives here there pair fids e.found e.comes in
        subst (λ a. EndsAs a (Ok r)) (sym g.is) (
          g.reply,
          refl,
          subst (IsAs g.reply) (sym e.is) g.says,
          subst (IsUp told header new) (ap (λ l. journal_by past ++ l) (sym g.kept) ∙ sym (map-append payload_by past g.entries)) e.up,
        )

    -- a refusal that needs nothing
    own : (why : VenusRefused) → NeedsNothing why → call.comes there ≡ Err why → IsUp told header new (journal_by past) → ((answer fids here).said ≡ Err (client_refused_as why)) × IsUp told header new (journal_by (past ++ (answer fids here).entries))
    own why other comes up =
        subst (λ (a : Answer). (a.said ≡ Err (client_refused_as why)) × IsUp told header new (journal_by (past ++ a.entries))) (sym (does.refuses here there pair fids why comes other)) (refl, nothing_more up)

    no_room : LacksRoomFor header offers call (journal_by past) new → IsUp told header new (journal_by past) → EndsAs (answer fids here) (Err venus.JournalFull)
    no_room lacks up =
        let n = next_entry fids here there lacks.0 pair lacks.1 in
        inr (record { done = []; next = n.next; rest = n.rest; is = n.is }, subst (λ l. LacksRoom header l n.next) (sym (append-nil past)) (full_is lacks.0 n.next n.kept lacks.2 up), nothing_more up)

    pub ends : (result : Result R VenusRefused) → EndsSo told header offers call (journal_by past) fids new result → EndsAs (answer fids here) result
    ends (Ok r) e = answered r e
    ends (Err venus.Memory) e = ([], (answer fids here).entries, refl, nothing_more e)
    ends (Err venus.JournalFull) e = elim e.0 [ inl comes ↦ inl (own venus.JournalFull tt comes e.1) | inr lacks ↦ no_room lacks e.1 ]
    ends (Err venus.DiskFault) e =
        let n = next_entry fids here there e.payload pair e.next in (
          record { done = []; next = n.next; rest = n.rest; is = n.is },
          e.down,
          subst (λ l. StandsFor (told new.journal.disk) header (journal_by l) (Some (payload_by n.next))) (sym (append-nil past)) (subst (λ p. StandsFor (told new.journal.disk) header (journal_by past) (Some p)) n.kept e.stands),
        )
    ends (Err (venus.Need fid)) e =
        subst (λ (a : Answer). (a.said ≡ Err (refused.Miss fid)) × IsUp told header new (journal_by (past ++ a.entries))) (sym (does.lacks here there pair fids fid e.0 e.1)) (refl, nothing_more e.2)
    ends (Err venus.Down) e = absurd e
    ends (Err (venus.TooBig n)) e = own (venus.TooBig n) tt e.0 e.1
    ends (Err venus.NotFound) e = own venus.NotFound tt e.0 e.1
    ends (Err venus.NotDir) e = own venus.NotDir tt e.0 e.1
    ends (Err venus.Exists) e = own venus.Exists tt e.0 e.1
    ends (Err venus.IsDir) e = own venus.IsDir tt e.0 e.1
    ends (Err venus.NotFile) e = own venus.NotFile tt e.0 e.1
    ends (Err venus.NotEmpty) e = own venus.NotEmpty tt e.0 e.1
    ends (Err venus.Loop) e = own venus.Loop tt e.0 e.1
    ends (Err venus.LogFull) e = own venus.LogFull tt e.0 e.1
    ends (Err (venus.Frozen n h)) e = own (venus.Frozen n h) tt e.0 e.1
    ends (Err venus.Nothing) e = own venus.Nothing tt e.0 e.1
    ends (Err (venus.Young a w)) e = own (venus.Young a w) tt e.0 e.1
    ends (Err (venus.NotFrozen n)) e = own (venus.NotFrozen n) tt e.0 e.1
    ends (Err (venus.WrongNumber k n)) e = own (venus.WrongNumber k n) tt e.0 e.1
