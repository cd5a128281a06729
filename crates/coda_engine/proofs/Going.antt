-- A run goes on by a piece, and ends.
use Rattle.std.proofs.Common.{◌≡◌, ◌≢◌, ℕ, ◌+◌, ◌≤◌, Bool, true, false, List, [], ◌∷◌, ◌++◌, length, refl, sym, subst, inl, arith, length-append, Option, None, Some}
use Rattle.std.specs.Io.KnownBytes.{Consumes, Keeps, IsAtEnd}
use Rattle.std.proofs.lemmas.List.{append-nil}
use Rattle.std.proofs.lemmas.List.Elements.{All-nil}
use Rattle.std.proofs.KnownBytes.{Appends-nil, Appends-trans, Consumes-nil, Consumes-trans, Consumes-kept}
use Rattle.coda_engine.specs.Machine.{Gives, Refuses}
use Rattle.coda_engine.specs.Run.{Ran, Answers, Reports, is_at_end}
use Rattle.coda_engine.specs.Reading.{Place, Stands, StopsAmong, Advances, Stops, Ends, Goes}
use Rattle.coda_engine.specs.declared.status.Status.{Status}
use Rattle.coda_engine.specs.declared.status.Status.TheVariants.{SourceFault, Memory}
use Rattle.coda_engine.proofs.Feeding.{answers_all}

-- no line ran yet
none_ran : {M : Type 0} (all : Bool) (gives : Gives M) (start : M) → Ran gives start all [] [] [] [] [] start
none_ran all gives start = record {
  split = refl;
  whole = inl (inl refl);
  within = record { bytes = omega arith; lines = omega arith };
  runs = (refl, refl, refl);
}

-- nothing is read yet
stands_start : {M : Type 0} {gives : Gives M} (p : Place M) → p.pending ≡ [] → p.lines ≡ 0 → p.bytes ≡ 0 → Stands gives p.state [] [] [] p
stands_start {gives = gives} p pending lines bytes = record {
  front = [];
  ran = rw pending (none_ran false gives p.state);
  partial = rw pending (All-nil (λ b. b ≢ 10));
  within = record { bytes = omega arith; lines = omega arith };
  count = lines;
  size = bytes;
}

pub goes_start : {M : Type 0} {gives : Gives M} (left held : Option (List ℕ)) (p : Place M) → p.pending ≡ [] → p.lines ≡ 0 → p.bytes ≡ 0
    → Goes gives p.state left left held held p
goes_start left held p pending lines bytes = ([], [], [], Consumes-nil left, Appends-nil held, stands_start p pending lines bytes)

pub goes_more : {M : Type 0} {gives : Gives M} {start : M} (l0 l1 l2 h0 h1 h2 : Option (List ℕ)) (p q : Place M) (piece : List ℕ)
    → Goes gives start l0 l1 h0 h1 p → Consumes l1 l2 piece → Advances gives h1 h2 p piece q → Goes gives start l0 l2 h0 h2 q
goes_more {start = start} l0 l1 l2 h0 h1 h2 p q piece go took step = (
  go.0 ++ piece,
  go.1 ++ step.0,
  go.2 ++ step.1,
  Consumes-trans l0 l1 l2 go.0 piece go.3 took,
  Appends-trans h0 h1 h2 go.1 step.0 go.4 step.2,
  step.3 start go.0 go.1 go.2 go.5,
)

-- each byte of the piece is counted
pub goes_counted : {M : Type 0} {gives : Gives M} {start : M} (l0 l1 h0 h1 h2 : Option (List ℕ)) (p q : Place M) (piece : List ℕ)
    → Goes gives start l0 l1 h0 h1 p → Advances gives h1 h2 p piece q → q.bytes ≡ p.bytes + length piece
goes_counted {start = start} l0 l1 h0 h1 h2 p q piece go step =
    let s = step.3 start go.0 go.1 go.2 go.5 in
    rw (s.size, length-append go.0 piece, go.5.size) refl

pub goes_stop : {M : Type 0} (gives : Gives M) (refuses : Refuses M) (start new : M) (l0 l1 l2 h0 h1 h2 : Option (List ℕ)) (p : Place M) (piece : List ℕ) (status : Status)
    → Goes gives start l0 l1 h0 h1 p → Consumes l1 l2 piece → p.bytes + length piece ≤ 16777217 → Stops gives refuses 65536 h1 h2 p new piece status
    → (outside : List (List ℕ)) × Reports gives refuses start new l0 l2 h0 h2 outside status
goes_stop gives refuses start new l0 l1 l2 h0 h1 h2 p piece status go took few stop = (
  go.2 ++ stop.1,
  (
    go.0 ++ piece,
    go.1 ++ stop.0,
    Consumes-trans l0 l1 l2 go.0 piece go.3 took,
    Appends-trans h0 h1 h2 go.1 stop.0 go.4 stop.2,
    answers_all gives refuses 65536 start new (is_at_end l2) (go.0 ++ piece) (go.1 ++ stop.0) (go.2 ++ stop.1) status (stop.3 start go.0 go.1 go.2 go.5),
    (let read = length-append go.0 piece in let size = go.5.size in omega (arith, read, size, few)),
  ),
)

pub goes_no_source_fault : {M : Type 0} (gives : Gives M) (refuses : Refuses M) (start new : M) (l0 l1 h0 h1 h2 : Option (List ℕ)) (p : Place M) (piece : List ℕ) (status : Status)
    → Goes gives start l0 l1 h0 h1 p → Stops gives refuses 65536 h1 h2 p new piece status → status ≢ SourceFault
goes_no_source_fault gives refuses start new l0 l1 h0 h1 h2 p piece status go stop e =
    let Among : Status → Type 0 = λ s. StopsAmong gives refuses 65536 start new (go.0 ++ piece) (go.1 ++ stop.0) (go.2 ++ stop.1) s in
    subst Among e (stop.3 start go.0 go.1 go.2 go.5)

at_end_is : (left : Option (List ℕ)) → IsAtEnd left → is_at_end left ≡ true
at_end_is None h = refl
at_end_is (Some []) h = refl
at_end_is (Some (b ∷ bs)) h = cc

pub goes_end : {M : Type 0} (gives : Gives M) (refuses : Refuses M) (start new : M) (l0 l1 l2 h0 h1 h2 : Option (List ℕ)) (p : Place M) (status : Status)
    → Goes gives start l0 l1 h0 h1 p → Consumes l1 l2 [] → IsAtEnd l2 → Ends gives refuses h1 h2 p new status
    → (outside : List (List ℕ)) × Reports gives refuses start new l0 l2 h0 h2 outside status
goes_end gives refuses start new l0 l1 l2 h0 h1 h2 p status go took at_end end =
    let Answer : Bool → Type 0 = λ all. Answers gives refuses start new all go.0 (go.1 ++ end.0) (go.2 ++ end.1) status in (
      go.2 ++ end.1,
      (
        go.0,
        go.1 ++ end.0,
        (let Took : List ℕ → Type 0 = λ read. Consumes l0 l2 read in subst Took (append-nil go.0) (Consumes-trans l0 l1 l2 go.0 [] go.3 took)),
        Appends-trans h0 h1 h2 go.1 end.0 go.4 end.2,
        subst Answer (sym (at_end_is l2 at_end)) (end.3 start go.0 go.1 go.2 go.5),
        (let few = go.5.within.bytes in omega (arith, few)),
      ),
    )

pub goes_fault : {M : Type 0} (gives : Gives M) (refuses : Refuses M) (start : M) (l0 l1 l2 h0 h1 : Option (List ℕ)) (p : Place M)
    → Goes gives start l0 l1 h0 h1 p → Keeps l1 l2 → (outside : List (List ℕ)) × Reports gives refuses start p.state l0 l2 h0 h1 outside SourceFault
goes_fault gives refuses start l0 l1 l2 h0 h1 p go kept =
    let s = go.5 in
    (go.2, (go.0, go.1, Consumes-kept l0 l1 l2 go.0 go.3 kept, go.4, (s.front, p.pending, s.ran, s.partial, s.within), (let few = s.within.bytes in omega (arith, few))))

-- no memory for the buffer: nothing was read
pub memory_at_start : {M : Type 0} (gives : Gives M) (refuses : Refuses M) (start : M) (left held : Option (List ℕ))
    → (outside : List (List ℕ)) × Reports gives refuses start start left left held held outside Memory
memory_at_start gives refuses start left held =
    ([], ([], [], Consumes-nil left, Appends-nil held, ([], [], [], none_ran (is_at_end left) gives start, ([], refl)), omega arith))
