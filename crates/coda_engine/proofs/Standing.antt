-- What a byte, a line and a stop do to where a run stands.
use Rattle.std.proofs.Common.{◌≡◌, ◌≢◌, ℕ, ◌+◌, ◌<◌, Bool, false, List, [], ◌∷◌, ◌++◌, length, refl, sym, ap, ◌∙◌, append_assoc, inl, inr, arith, length-append}
use Rattle.std.specs.Str.Lines.{lines, strip_carriage_return}
use Rattle.std.proofs.lemmas.List.{append-nil}
use Rattle.std.proofs.lemmas.List.Elements.{All-push, All-nil}
use Rattle.std.proofs.lemmas.Bool.{false≢true}
use Rattle.std.proofs.lemmas.Bool.Decides.{eqb_tells}
use Rattle.coda_engine.specs.Lines.{HasNoNewline, IsWholeLines, IsWithinLimits}
use Rattle.coda_engine.specs.Machine.{Gives, Refuses}
use Rattle.coda_engine.specs.Run.{Runs, Ran, IsNext, Answers}
use Rattle.coda_engine.specs.Reading.{Place, HasRoom, IsFull, Stands, StopsAmong}
use Rattle.coda_engine.specs.declared.status.Kind.{Kind}
use Rattle.coda_engine.specs.declared.status.Status.TheVariants.{Script, SinkFault, TooLong, BayFault, Memory}
use Rattle.coda_engine.proofs.Splitting.{lines-more, lines-ended, lines-last}

-- a run goes on by one line
pub runs_more : {M : Type 0} (gives : Gives M) (old mid new : M) (ls : List (List ℕ)) (line report text : List ℕ) (outside answered : List (List ℕ))
    → Runs gives old ls report outside mid → gives mid line text answered new → Runs gives old (ls ++ line ∷ []) (report ++ text) (outside ++ answered) new
runs_more gives old mid new [] line report text outside answered run did =
    (new, text, [], answered, [], rw (← run.2) did, (refl, refl, refl), rw (run.0, append-nil text) refl, rw (run.1, append-nil answered) refl)
runs_more gives old mid new (l ∷ ls) line report text outside answered run did = (
  run.0,
  run.1,
  run.2 ++ text,
  run.3,
  run.4 ++ answered,
  run.5,
  runs_more gives run.0 mid new ls line run.2 text run.4 answered run.6 did,
  rw (run.7, append_assoc run.1 run.2 text) refl,
  rw (run.8, append_assoc run.3 run.4 answered) refl,
)

-- where the input may go on, what ran is whole lines
pub whole_of : {M : Type 0} {gives : Gives M} {start : M} {read front rest report : List ℕ} {outside : List (List ℕ)} {state : M}
    → Ran gives start false read front rest report outside state → IsWholeLines front
whole_of ran = elim ran.whole [ inl whole ↦ whole | inr ended ↦ absurd (false≢true ended.0) ]

-- the line under way is one more
lines_open : (front pending : List ℕ) → IsWholeLines front → HasNoNewline pending → pending ≢ [] → length (lines (front ++ pending)) ≡ length (lines front) + 1
lines_open front pending whole clean some =
    rw (lines-more front pending whole, lines-last pending clean some, length-append (lines front) (pending ∷ [])) refl

-- and its newline adds none
pub lines_closed : (front pending : List ℕ) → IsWholeLines front → HasNoNewline pending → lines ((front ++ pending) ++ 10 ∷ []) ≡ lines front ++ strip_carriage_return pending ∷ []
lines_closed front pending whole clean =
    rw (append_assoc front pending (10 ∷ []), lines-more front (pending ++ 10 ∷ []) whole, lines-ended pending clean) refl

-- a byte alone is one line
lines-byte : (b : ℕ) → length (lines (b ∷ [])) ≡ 1
lines-byte b =
    elim (eqb_tells b 10) [
      | inl here ↦ rw here.1 refl
      | inr other ↦ rw (lines-last (b ∷ []) (All-push (λ x. x ≢ 10) [] b (All-nil (λ x. x ≢ 10)) other.1) (λ e. cc)) refl
    ]

some_from_push : (xs : List ℕ) (b : ℕ) → xs ++ b ∷ [] ≢ []
some_from_push [] b e = cc
some_from_push (x ∷ xs) b e = cc

-- a line that is under way is below the limit
room : (read front pending : List ℕ) (count : ℕ) → read ≡ front ++ pending → IsWholeLines front → HasNoNewline pending → IsWithinLimits read → count ≡ length (lines front) → (pending ≡ [] → count < 200000) → count < 200000
room read front [] count split whole clean within counted free = free refl
room read front (b ∷ bs) count split whole clean within counted free =
    let fits = rw split at within.lines in
    omega (arith, lines_open front (b ∷ bs) whole clean (λ e. cc), fits)

-- the limits hold with one more byte
pub within_more : {M : Type 0} {gives : Gives M} {start : M} (read report : List ℕ) (outside : List (List ℕ)) (b : ℕ) (place : Place M)
    → Stands gives start read report outside place → HasRoom place.pending place.lines place.bytes → IsWithinLimits (read ++ b ∷ [])
within_more read report outside b place s free =
    let whole = whole_of s.ran in
    let below : place.lines < 200000 = room read s.front place.pending place.lines s.ran.split whole s.partial s.within s.count free.count in
    record {
      bytes = omega (arith, length-append read (b ∷ []), s.size, free.size);
      lines = rw s.ran.split (elim (eqb_tells b 10) [
        | inl here ↦ rw (here.1, lines_closed s.front place.pending whole s.partial, length-append (lines s.front) (strip_carriage_return place.pending ∷ [])) (omega (arith, s.count))
        | inr other ↦ rw (append_assoc s.front place.pending (b ∷ []), lines_open s.front (place.pending ++ b ∷ []) whole (All-push (λ x. x ≢ 10) place.pending b s.partial other.1) (some_from_push place.pending b)) (omega (arith, s.count))
      ]);
    }

-- a byte that is no newline goes to the line under way
pub stands_byte : {M : Type 0} {gives : Gives M} {start : M} (read report : List ℕ) (outside : List (List ℕ)) (b : ℕ) (old new : Place M)
    → Stands gives start read report outside old → b ≢ 10 → HasRoom old.pending old.lines old.bytes
    → new.state ≡ old.state → new.pending ≡ old.pending ++ b ∷ [] → new.lines ≡ old.lines → new.bytes ≡ old.bytes + 1
    → Stands gives start (read ++ b ∷ []) (report ++ []) (outside ++ []) new
stands_byte read report outside b old new s differs free state pending lines bytes = record {
  front = s.front;
  ran = record {
    split = rw (pending, s.ran.split, append_assoc s.front old.pending (b ∷ [])) refl;
    whole = inl (whole_of s.ran);
    within = s.ran.within;
    runs = rw (append-nil report, append-nil outside, state) s.ran.runs;
  };
  partial = rw pending (All-push (λ x. x ≢ 10) old.pending b s.partial differs);
  within = within_more read report outside b old s free;
  count = lines ∙ s.count;
  size = rw (bytes, s.size, length-append read (b ∷ [])) refl;
}

-- a newline runs the line under way
pub stands_line : {M : Type 0} {gives : Gives M} {start : M} (read report text : List ℕ) (outside answered : List (List ℕ)) (old new : Place M)
    → Stands gives start read report outside old → HasRoom old.pending old.lines old.bytes
    → gives old.state (strip_carriage_return old.pending) text answered new.state → new.pending ≡ [] → new.lines ≡ old.lines + 1 → new.bytes ≡ old.bytes + 1
    → Stands gives start (read ++ 10 ∷ []) (report ++ text) (outside ++ answered) new
stands_line read report text outside answered old new s free gives pending count bytes =
    let whole = whole_of s.ran in
    let ls : lines (read ++ 10 ∷ []) ≡ lines s.front ++ strip_carriage_return old.pending ∷ [] = rw s.ran.split (lines_closed s.front old.pending whole s.partial) in
    let within = within_more read report outside 10 old s free in
    record {
      front = read ++ 10 ∷ [];
      ran = record {
        split = rw (pending, append-nil (read ++ 10 ∷ [])) refl;
        whole = inl (inr (read, refl));
        within = within;
        runs = rw ls (runs_more _ _ _ _ _ _ _ _ _ _ s.ran.runs gives);
      };
      partial = rw pending (All-nil (λ x. x ≢ 10));
      within = within;
      count = rw (ls, count, s.count, length-append (lines s.front) (strip_carriage_return old.pending ∷ [])) refl;
      size = rw (bytes, s.size, length-append read (10 ∷ [])) refl;
    }

-- bytes that were read besides change nothing
pub ran_more : {M : Type 0} {gives : Gives M} {start : M} (all : Bool) (read front rest report more : List ℕ) (outside : List (List ℕ)) (state : M)
    → Ran gives start false read front rest report outside state → Ran gives start all (read ++ more) front (rest ++ more) report outside state
ran_more all read front rest report more outside state ran = record {
  split = rw (ran.split, append_assoc front rest more) refl;
  whole = inl (whole_of ran);
  within = ran.within;
  runs = ran.runs;
}

-- a byte past a limit
pub stop_long : {M : Type 0} (gives : Gives M) (refuses : Refuses M) {start : M} (read report : List ℕ) (outside : List (List ℕ)) (b : ℕ) (place : Place M)
    → Stands gives start read report outside place → IsFull place.pending place.lines place.bytes
    → Answers gives refuses start place.state false (read ++ b ∷ []) (report ++ []) (outside ++ []) TooLong
stop_long gives refuses read report outside b place s passed =
    let whole = whole_of s.ran in
    rw (append-nil report, append-nil outside) (
      s.front,
      place.pending ++ b ∷ [],
      ran_more false read s.front place.pending report (b ∷ []) outside place.state s.ran,
      (
        place.pending,
        b,
        [],
        refl,
        s.partial,
        rw (← s.ran.split) s.within,
        λ within. elim passed [
          | inl full ↦ omega (arith, rw (← s.ran.split, length-append read (b ∷ [])) at within.bytes, s.size)
          | inr full ↦ omega (arith, s.count, rw (full.0, append-nil s.front, lines-more s.front (b ∷ []) whole, length-append (lines s.front) (lines (b ∷ [])), lines-byte b) at within.lines)
        ],
      ),
    )

-- the line under way is next where a newline comes
next_closed : {M : Type 0} {gives : Gives M} {start : M} (read report : List ℕ) (outside : List (List ℕ)) (place : Place M)
    → (s : Stands gives start read report outside place) → HasRoom place.pending place.lines place.bytes
    → IsNext false s.front (place.pending ++ 10 ∷ []) (strip_carriage_return place.pending)
next_closed read report outside place s free =
    inl (place.pending, [], refl, s.partial, rw (← s.ran.split) (within_more read report outside 10 place s free), refl)

-- a line that is refused
pub stop_script : {M : Type 0} (gives : Gives M) (refuses : Refuses M) {start : M} (read report : List ℕ) (outside : List (List ℕ)) (column : ℕ) (kind : Kind) (place : Place M)
    → Stands gives start read report outside place → HasRoom place.pending place.lines place.bytes
    → refuses place.state (strip_carriage_return place.pending) column kind
    → Answers gives refuses start place.state false (read ++ 10 ∷ []) (report ++ []) (outside ++ []) (Script (place.lines + 1) column kind)
stop_script gives refuses read report outside column kind place s free refused =
    rw (append-nil report, append-nil outside) (
      s.front,
      place.pending ++ 10 ∷ [],
      strip_carriage_return place.pending,
      ran_more false read s.front place.pending report (10 ∷ []) outside place.state s.ran,
      next_closed read report outside place s free,
      refused,
      ap (λ n. n + 1) s.count,
    )

-- a line at which the bay is at fault
pub stop_bay : {M : Type 0} (gives : Gives M) (refuses : Refuses M) {start : M} (read report : List ℕ) (outside : List (List ℕ)) (place : Place M)
    → Stands gives start read report outside place → HasRoom place.pending place.lines place.bytes
    → Answers gives refuses start place.state false (read ++ 10 ∷ []) (report ++ []) (outside ++ []) BayFault
stop_bay gives refuses read report outside place s free =
    rw (append-nil report, append-nil outside) (
      s.front,
      place.pending ++ 10 ∷ [],
      strip_carriage_return place.pending,
      ran_more false read s.front place.pending report (10 ∷ []) outside place.state s.ran,
      next_closed read report outside place s free,
    )

-- a reply that was written in part
pub stop_sink : {M : Type 0} (gives : Gives M) (refuses : Refuses M) {start : M} (read report part missing : List ℕ) (outside answered : List (List ℕ)) (new : M) (place : Place M)
    → Stands gives start read report outside place → HasRoom place.pending place.lines place.bytes
    → gives place.state (strip_carriage_return place.pending) (part ++ missing) answered new → missing ≢ []
    → StopsAmong gives refuses 0 start new (read ++ 10 ∷ []) (report ++ part) (outside ++ answered) SinkFault
stop_sink gives refuses read report part missing outside answered new place s free did some = (
  read ++ 10 ∷ [],
  [],
  record {
    split = rw (append-nil (read ++ 10 ∷ [])) refl;
    whole = inl (inr (read, refl));
    within = within_more read report outside 10 place s free;
    before = lines s.front;
    line = strip_carriage_return place.pending;
    same = rw s.ran.split (lines_closed s.front place.pending (whole_of s.ran) s.partial);
    report = report;
    answers = outside;
    state = place.state;
    runs = s.ran.runs;
    text = part ++ missing;
    answered = answered;
    did = did;
    missing = missing;
    some = some;
    wrote = sym (append_assoc report part missing);
    late = omega (arith, length-append report part);
    said = refl;
  },
  omega (arith, length-append report part),
)

-- want of memory
pub stop_memory : {M : Type 0} (gives : Gives M) (refuses : Refuses M) {start : M} (read report more : List ℕ) (outside : List (List ℕ)) (place : Place M)
    → Stands gives start read report outside place → Answers gives refuses start place.state false (read ++ more) (report ++ []) (outside ++ []) Memory
stop_memory gives refuses read report more outside place s =
    rw (append-nil report, append-nil outside)
    (s.front, place.pending ++ more, report, ran_more false read s.front place.pending report more outside place.state s.ran, ([], rw (append-nil report) refl))
