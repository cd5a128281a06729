-- What the tests tell by which a line is refused: of actors that are named, of those that are down, of logs that freeze nothing, and of answers that aren't taken.
use Rattle.std.proofs.Common.{◌≡◌, ◌≢◌, ℕ, ◌+◌, ◌-◌, ◌<◌, ◌≤◌, ◌==◌, ◌||◌, not, nat_le, is_some, Bool, true, false, cond, List, [], ◌∷◌, drop, map, Option, Some, None, option_map, Result, Ok, Err, refl, sym, ap, subst, ◌∙◌, inl, inr, ◌⊎◌, arith}
use Rattle.std.specs.Prelude.{nat_lt}
use Rattle.std.specs.List.{list_any, find}
use Rattle.std.specs.Option.{option_map_or}
use Rattle.std.proofs.lemmas.Bool.{eqb-true, eq-eqb, and_parts, false≢true}
use Rattle.std.proofs.lemmas.Bool.Decides.{nat_tests}
use Rattle.coda_cml.specs.Chunks.{is_filled, age, too_young}
use Rattle.coda_cml.specs.Partition.{ArePartedBy}
use Rattle.coda_cml.specs.Segments.{segments_of}
use Rattle.coda_cml.specs.Steps.{settle_refusal}
use Rattle.coda_cml.specs.declared.fault.FreezeFault.{FreezeFault}
use Rattle.coda_cml.specs.declared.fault.SettleFault.TheVariants as settle
use Rattle.coda_cml.specs.declared.frozen.Frozen.{Frozen}
use Rattle.coda_cml.specs.declared.segment.Segment.{Segment}
use Rattle.coda_fid.specs.declared.op.Record.{Record}
use Rattle.coda_journal.specs.declared.header.Header.{Header}
use Rattle.coda_plain.specs.Histories.{In}
use Rattle.coda_record.specs.declared.answer.Answer.{Answer as RecordAnswer}
use Rattle.coda_replica.specs.Answers.{is_next, told}
use Rattle.coda_script.specs.declared.reply.Reply.{Reply}
use Rattle.coda_script.specs.declared.line.Strength.{Strength}
use Rattle.coda_script.specs.declared.line.Strength.TheVariants.{Strong, Weak, Down}
use Rattle.coda_cell.specs.Made.{client_of, replica_of}
use Rattle.coda_cell.specs.Refused.{Refused, NoSuchActor}
use Rattle.coda_cell.specs.Refused as refused
use Rattle.coda_cell.specs.Refusing.{refusal}
use Rattle.coda_cell.specs.Sending.{Freezing, frozen_now, frozen_unless, freezing_of, freezing, Ruling, decides, ruling_of, Taking, taking, taken_unless, answered_to, ruled_on, drained_of, drain}
use Rattle.coda_cell.specs.State.{ClientVolume, ReplicaState}
use Rattle.coda_cell.specs.Steps.{alone, Named, client_named, volume_named, server_named, holder_named, first_missing, reply_to}
use Rattle.coda_shelves.specs.Cells.{Row, Cell, Stand, asked, is_up, stand_of, state_of}
use Rattle.coda_shelves.specs.Lines.{client_down, replica_down}
use Rattle.coda_runs.specs.Because.{IsRefused, HoldsNot, IsEmpty, FirstFilled}
use Rattle.coda_runs.proofs.Ended.{home_is}

-- ---- actors that are named

-- what is so of each that isn't there
abbrev pub EachGone : (Refused → Type 0) → List Named → Type 0
EachGone P [] = Unit {0}
EachGone P (n ∷ ns) = (n.there ≡ false → P (NoSuchActor n.number)) × EachGone P ns

pub gone_of : (P : Refused → Type 0) (ns : List Named) (why : Refused) → first_missing ns ≡ Some why → EachGone P ns → P why
gone_of P [] why e each = cc
gone_of P (n ∷ ns) why e each = by n.there refl e (λ rest. gone_of P ns why rest each.1)
  where
    by : (b : Bool) → n.there ≡ b → cond b (first_missing ns) (Some (NoSuchActor n.number)) ≡ Some why → (first_missing ns ≡ Some why → P why) → P why
    by true is e others = others e
    by false is e others = (let same : NoSuchActor n.number ≡ why = cc in subst P same (each.0 is))

pub client_gone : (cell : Cell) (client : ℕ) → (client_named (state_of cell) client).there ≡ false → asked (cell.clients client).life ≡ None
client_gone cell client e = by (asked (cell.clients client).life) e
  where
    by : (o : Option Header) → is_some (option_map (λ (h : Header). client_of client (cell.clients client).disk.history h.cache) o) ≡ false → o ≡ None
    by None e = refl
    by (Some header) e = cc

abbrev pub replica_at : Cell → ℕ → Stand → ReplicaState
replica_at cell volume at = replica_of (λ s. (cell.replicas at.row s).disk.history) volume (alone at.servers)

pub volume_gone : (cell : Cell) (volume : ℕ) → (volume_named (state_of cell) volume).there ≡ false → stand_of cell volume ≡ None
volume_gone cell volume e = by (stand_of cell volume) e
  where
    by : (o : Option Stand) → is_some (option_map (replica_at cell volume) o) ≡ false → o ≡ None
    by None e = refl
    by (Some at) e = cc

pub holder_gone : (cell : Cell) (server volume : ℕ) → (holder_named (state_of cell) server volume).there ≡ false → HoldsNot cell server (Some volume)
holder_gone cell server volume e at stands home =
    false≢true (sym e ∙ ap (λ o. option_map_or (λ (r : ReplicaState). r.server == server) (option_map (replica_at cell volume) o) false) stands ∙ eq-eqb (replica_at cell volume at).server server (home_is cell volume at ∙ home))

none_holds : (server : ℕ) (rows : List Row) → list_any (λ other. other == server) (map (λ (r : Row). alone r.servers) rows) ≡ false → (row : Row) → In row rows → alone row.servers ≢ server
none_holds server [] e row i same = absurd i
none_holds server (r ∷ rows) e row i same = by (alone r.servers == server) refl e i (λ less there. none_holds server rows less row there same)
  where
    by : (b : Bool) → (alone r.servers == server) ≡ b → (b || list_any (λ other. other == server) (map (λ (x : Row). alone x.servers) rows)) ≡ false → In row (r ∷ rows)
        → (list_any (λ other. other == server) (map (λ (x : Row). alone x.servers) rows) ≡ false → In row rows → ⊥) → ⊥
    by true is e i others = cc
    by false is e (inl first) others = false≢true (sym is ∙ eq-eqb (alone r.servers) server (ap (λ (x : Row). alone x.servers) (sym first) ∙ same))
    by false is e (inr there) others = others e there

pub server_gone : (cell : Cell) (server : ℕ) → (server_named (state_of cell) server).there ≡ false → HoldsNot cell server None
server_gone cell server e = none_holds server cell.rows e

-- ---- actors that are down

pub client_fell : (cell : Cell) (client : ℕ) → client_down cell client ≡ true → (header : Header) × (asked (cell.clients client).life ≡ Some header) × (is_up (cell.clients client).life ≡ false)
client_fell cell client e =
    let both = and_parts (is_some (asked (cell.clients client).life)) (not (is_up (cell.clients client).life)) e in
    by (asked (cell.clients client).life) (is_up (cell.clients client).life) both.0 both.1
  where
    by : (o : Option Header) (b : Bool) → is_some o ≡ true → not b ≡ true → (header : Header) × (o ≡ Some header) × (b ≡ false)
    by None b some e = cc
    by (Some header) true some e = cc
    by (Some header) false some e = (header, refl, refl)

pub replica_fell : (cell : Cell) (server volume : ℕ) → replica_down cell server volume ≡ true → (at : Stand) × (stand_of cell volume ≡ Some at) × (is_up (cell.replicas at.row server).life ≡ false)
replica_fell cell server volume e = by (stand_of cell volume) e
  where
    by : (o : Option Stand) → option_map_or (λ (at : Stand). not (is_up (cell.replicas at.row server).life)) o false ≡ true → (at : Stand) × (o ≡ Some at) × (is_up (cell.replicas at.row server).life ≡ false)
    by None e = cc
    by (Some at) e = by_up (is_up (cell.replicas at.row server).life) refl e
      where
        by_up : (b : Bool) → is_up (cell.replicas at.row server).life ≡ b → not b ≡ true → (a : Stand) × (Some at ≡ Some a) × (is_up (cell.replicas a.row server).life ≡ false)
        by_up true is e = cc
        by_up false is e = (at, refl, is)

-- ---- logs that freeze nothing

none_filled : (segments : List Segment) → find is_filled segments ≡ None → (s : Segment) → In s segments → IsEmpty s
none_filled [] e s i = absurd i
none_filled (x ∷ xs) e s i = by (x.count == 0) refl e i (λ less there. none_filled xs less s there)
  where
    by : (b : Bool) → (x.count == 0) ≡ b → cond (not b) (Some x) (find is_filled xs) ≡ None → In s (x ∷ xs) → (find is_filled xs ≡ None → In s xs → IsEmpty s) → IsEmpty s
    by true is e (inl same) others = ap (λ (z : Segment). z.count) same ∙ eqb-true x.count 0 is
    by true is e (inr there) others = others e there
    by false is e i others = cc

-- where no segment has a record, none is left
pub none_left : (segments : List Segment) (recs : List Record) → ArePartedBy segments recs → ((s : Segment) → In s segments → IsEmpty s) → recs ≡ []
none_left [] recs parted empty = parted
none_left (x ∷ xs) recs parted empty = none_left xs recs (subst (λ n. ArePartedBy xs (drop n recs)) (empty x (inl refl)) parted.4) (λ s i. empty s (inr i))

first_so : (x : Segment) (xs : List Segment) (segment : Segment) → x.count ≡ 0 → FirstFilled xs segment → FirstFilled (x ∷ xs) segment
first_so x xs segment zero rest = record { before = x ∷ rest.before; behind = rest.behind; is = ap (λ l. x ∷ l) rest.is; empty = first_empty; filled = rest.filled }
  where
    first_empty : (s : Segment) → In s (x ∷ rest.before) → IsEmpty s
    first_empty s (inl same) = ap (λ (z : Segment). z.count) same ∙ zero
    first_empty s (inr i) = rest.empty s i

first_filled : (segments : List Segment) (segment : Segment) → find is_filled segments ≡ Some segment → FirstFilled segments segment
first_filled [] segment e = cc
first_filled (x ∷ xs) segment e = by (x.count == 0) refl e (first_filled xs segment)
  where
    by : (b : Bool) → (x.count == 0) ≡ b → cond (not b) (Some x) (find is_filled xs) ≡ Some segment → (find is_filled xs ≡ Some segment → FirstFilled xs segment) → FirstFilled (x ∷ xs) segment
    by true is e others = first_so x xs segment (eqb-true x.count 0 is) (others e)
    by false is e others =
        let same : x ≡ segment = cc in
        record { before = []; behind = xs; is = ap (λ z. z ∷ xs) same; empty = λ s i. absurd i; filled = λ zero. false≢true (sym is ∙ eq-eqb x.count 0 (ap (λ (z : Segment). z.count) same ∙ zero)) }

-- why a client freezes nothing for a server
pub data Unfrozen (now window server : ℕ) (v : ClientVolume) (why : Refused) : Type 0 where
  IsElsewhere : (chunk : Frozen) → v.frozen ≡ Some chunk → chunk.home ≢ server → why ≡ refused.Frozen chunk.number chunk.home → Unfrozen now window server v why
  HasNothing : v.frozen ≡ None → ((s : Segment) → In s (segments_of v.back) → IsEmpty s) → why ≡ refused.Nothing → Unfrozen now window server v why
  HasYoung : (segment : Segment) → v.frozen ≡ None → FirstFilled (segments_of v.back) segment → now - segment.newest < window → why ≡ refused.Young (now - segment.newest) window → Unfrozen now window server v why
  HasAll : 4294967295 ≤ v.chunks → why ≡ refused.JournalFull → Unfrozen now window server v why

-- what is frozen, where something may go
pub record Goes (v : ClientVolume) (f : Freezing) : Type 0 where
  pub chunk : Frozen
  pub frozen : f.volume.frozen ≡ Some chunk
  pub number : chunk.number ≡ f.number
  pub was : ((old : Frozen) × (v.frozen ≡ Some old) × (old.number ≡ f.number)) ⊎ (f.number ≤ 4294967295)

module _ (now window server : ℕ) (v : ClientVolume) where
  abbrev pub MayGo : Result Freezing Refused → Type 0
  MayGo (Ok f) = Goes v f
  MayGo (Err why) = Unfrozen now window server v why

  abbrev kept : Frozen → Freezing
  kept chunk = record { number = chunk.number; span = v.front; deeds = []; volume = v }

  for_server : (chunk : Frozen) → v.frozen ≡ Some chunk → (b : Bool) → (chunk.home == server) ≡ b → MayGo (cond b (Ok (kept chunk)) (Err (refused.Frozen chunk.number chunk.home)))
  for_server chunk e true is = record { chunk = chunk; frozen = e; number = refl; was = inl (chunk, e, refl) }
  for_server chunk e false is = IsElsewhere chunk e (λ same. false≢true (sym is ∙ eq-eqb chunk.home server same)) refl

  counted : v.frozen ≡ None → (b : Bool) → nat_le 4294967295 v.chunks ≡ b → MayGo (cond b (Err refused.JournalFull) (Ok (frozen_now now window server v)))
  counted none true is = HasAll (grind (arith, nat_tests, is)) refl
  counted none false is = record {
    chunk = record { number = v.chunks + 1; home = server };
    frozen = refl;
    number = refl;
    was = inr (grind (arith, nat_tests, is));
  }

  old_enough : v.frozen ≡ None → (o : Option Segment) → find is_filled (segments_of v.back) ≡ o → MayGo (frozen_unless (too_young now window o) now window server v)
  old_enough none None is = HasNothing none (none_filled (segments_of v.back) is) refl
  old_enough none (Some segment) is = by (nat_le window (age now segment)) refl
    where
      by : (b : Bool) → nat_le window (age now segment) ≡ b → MayGo (frozen_unless (cond b None (Some (FreezeFault.Young (age now segment) window))) now window server v)
      by true old = counted none (nat_le 4294967295 v.chunks) refl
      by false young = HasYoung segment none (first_filled (segments_of v.back) segment is) (grind (arith, nat_tests, young)) refl

  pub may_go : MayGo (freezing now window server v)
  may_go = by v.frozen refl
    where
      by : (o : Option Frozen) → v.frozen ≡ o → MayGo (freezing_of o now window server v)
      by None e = old_enough e (find is_filled (segments_of v.back)) refl
      by (Some chunk) e = for_server chunk e (chunk.home == server) refl

-- ---- answers

-- what is told of an answer that isn't taken
pub data Untaken (number : ℕ) (v : ClientVolume) (why : Refused) : Type 0 where
  IsThawed : v.frozen ≡ None → why ≡ refused.NotFrozen number → Untaken number v why
  IsAnother : (chunk : Frozen) → v.frozen ≡ Some chunk → chunk.number ≢ number → why ≡ refused.WrongNumber chunk.number number → Untaken number v why

pub untaken : (number : ℕ) (answer : RecordAnswer) (v : ClientVolume) (why : Refused) → taking number answer v ≡ Err why → Untaken number v why
untaken number answer v why e = by v.frozen refl e
  where
    by : (o : Option Frozen) → v.frozen ≡ o → taken_unless (settle_refusal o number) number answer v ≡ Err why → Untaken number v why
    by None is e = (let same : refused.NotFrozen number ≡ why = cc in IsThawed is (sym same))
    by (Some chunk) is e = by_number (chunk.number == number) refl e
      where
        by_number : (b : Bool) → (chunk.number == number) ≡ b → taken_unless (cond b None (Some (settle.WrongNumber chunk.number number))) number answer v ≡ Err why → Untaken number v why
        by_number true same e = cc
        by_number false other e = (let same : refused.WrongNumber chunk.number number ≡ why = cc in IsAnother chunk is (λ eq. false≢true (sym other ∙ eq-eqb chunk.number number eq)) (sym same))

-- an answer to what is frozen is taken
taken_so : (v : ClientVolume) (f : Freezing) → Goes v f → (answer : RecordAnswer) (why : Refused) → taking f.number answer f.volume ≡ Err why → ⊥
taken_so v f goes answer why e = by (untaken f.number answer f.volume why e)
  where
    by : Untaken f.number f.volume why → ⊥
    by (IsThawed none says) = (let no : None ≡ Some goes.chunk = sym none ∙ goes.frozen in cc)
    by (IsAnother chunk is other says) = (let same : chunk ≡ goes.chunk = (let e : Some chunk ≡ Some goes.chunk = sym is ∙ goes.frozen in cc) in other (ap (λ (c : Frozen). c.number) same ∙ goes.number))

-- ---- a drain

-- why a drain is refused
pub data Undrained (strength : Strength) (now window server : ℕ) (v : ClientVolume) (why : Refused) : Type 0 where
  IsCutOff : strength ≡ Down → why ≡ refused.LinkDown → Undrained strength now window server v why
  IsUnfrozen : Unfrozen now window server v why → Undrained strength now window server v why
  IsTooHigh : (chunk : Frozen) → v.frozen ≡ Some chunk → 4294967295 < chunk.number → why ≡ refused.JournalFull → Undrained strength now window server v why

module _ (strength : Strength) (now window client volume : ℕ) (v : ClientVolume) (r : ReplicaState) (reply : Reply) (isnt : IsRefused reply) where
  abbrev IsWhy : Type 0
  IsWhy = (why : Refused) × (reply ≡ refusal why) × Undrained strength now window r.server v why

  answered_why : (f : Freezing) → Goes v f → (ruled : Ruling) → (o : Result Taking Refused) → taking f.number ruled.answer f.volume ≡ o → reply ≡ reply_to (answered_to client volume f ruled o).said → IsWhy
  answered_why f goes ruled (Err why) is says = absurd (taken_so v f goes ruled.answer why is)
  answered_why f goes ruled (Ok took) is says = absurd (subst IsRefused says isnt)

  ruled_why : (f : Freezing) → Goes v f → (next full : Bool) → nat_lt 4294967295 f.number ≡ full → reply ≡ reply_to (ruled_on client volume f r (ruling_of next full client f.number f.span r)).said → IsWhy
  ruled_why f goes true true high says = elim goes.was [
    | inl old ↦ (refused.JournalFull, says, IsTooHigh old.0 old.1 (let e = old.2 in grind (arith, nat_tests, high, e)) refl)
    | inr low ↦ absurd (let no : 4294967295 < f.number = grind (arith, nat_tests, high) in omega (arith, no, low))
  ]
  ruled_why f goes true false high says = (let ruled = decides client f.number f.span r in answered_why f goes ruled (taking f.number ruled.answer f.volume) refl says)
  ruled_why f goes false full high says =
      (let ruled : Ruling = record { answer = told (r.lasts client) f.number; entries = []; replica = r } in answered_why f goes ruled (taking f.number ruled.answer f.volume) refl says)

  drained_why : (o : Result Freezing Refused) → MayGo now window r.server v o → reply ≡ reply_to (drained_of client volume v r o).said → IsWhy
  drained_why (Err why) go says = (why, says, IsUnfrozen go)
  drained_why (Ok f) go says = ruled_why f go (is_next (r.lasts client) f.number) (nat_lt 4294967295 f.number) refl says

pub drain_why : (strength : Strength) (now window client volume : ℕ) (v : ClientVolume) (r : ReplicaState) (reply : Reply) (isnt : IsRefused reply) → reply ≡ reply_to (drain strength now window client volume v r).said
    → IsWhy strength now window client volume v r reply isnt
drain_why Strong now window client volume v r reply isnt says = drained_why Strong now window client volume v r reply isnt (freezing now window r.server v) (may_go now window r.server v) says
drain_why Weak now window client volume v r reply isnt says = drained_why Weak now window client volume v r reply isnt (freezing now window r.server v) (may_go now window r.server v) says
drain_why Down now window client volume v r reply isnt says = (refused.LinkDown, says, IsCutOff refl refl)
