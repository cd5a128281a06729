-- The two synced writes of a truncation.
use Rattle.std.proofs.Common.{◌≡◌, ◌≢◌, ◌⊎◌, inl, inr, ⊎_elim, ℕ, zero, suc, ◌+◌, ◌-◌, ◌*◌, ◌%◌, ◌<◌, ◌≤◌, List, [], ◌∷◌, ◌++◌, length, get_or, take, drop, refl, sym, ◌∙◌, ap, subst, arith, append_assoc, length-append, take-append-drop}
use Rattle.std.proofs.lemmas.List.{append-nil, length-take, take-take, take_at, drop_at, drop-drop, take-append-le}
use Rattle.std.proofs.lemmas.Bool.{cases_lt}
use Rattle.std.specs.Int.{w32}
use Rattle.std.specs.Prelude.{Result, Ok, Err}
use Rattle.coda_disk.specs.Told.{Told, Torn, put, Only, LeavesOnly}
use Rattle.coda_journal.specs.Entries.{body, framed, Holds}
use Rattle.coda_journal.specs.Header.{IsHeader, area_bytes}
use Rattle.coda_journal.specs.Image.{start_of, Reads}
use Rattle.coda_journal.specs.Open.{IsOpen}
use Rattle.coda_journal.specs.Synced.{May, WroteSynced}
use Rattle.coda_journal.specs.declared.header.Header.{Header}
use Rattle.coda_journal.specs.declared.journal.JournalFault.{JournalFault}
use Rattle.coda_journal.specs.declared.journal.JournalFault.TheVariants.{DiskFault}
use Rattle.coda_journal.proofs.Crash.{torn_gate}
use Rattle.coda_journal.proofs.Fronts.{opened, closes}
use Rattle.coda_journal.proofs.Moments.{started, and_then, widen}
use Rattle.coda_checkpoint.specs.Truncating.{IsOldOrSnapshot, IsInDoubt, TruncateAnswers, Truncating}
use Rattle.coda_checkpoint.specs.declared.store.Store.{Store}
use Rattle.coda_checkpoint.proofs.Areas.{AreBeside, HasListAt, torn_whole, two_first, reads_of, list_at_of, other_selector, one_holds, made_same, header_same, start_same, one_of_two}

module _ (header : Header) (start used area : ℕ) (ps : List (List ℕ)) (p b : List ℕ) (same : b ≡ framed w32 p)
    (t0 : Told) (o : IsOpen t0 header start used area ps) (fits : length b ≤ area)
    (other : ℕ) (beside : AreBeside area start other) where
  abbrev pub Q : List ℕ → Type 0
  Q = IsOldOrSnapshot header ps p

  -- the first bytes, up to the closed gate of the old list
  abbrev to_gate : ℕ
  to_gate = start + used + 1

  beside_bytes : AreBeside (area_bytes header) start other
  beside_bytes = subst (λ (n : ℕ). AreBeside n start other) o.size beside

  here : (c : List ℕ) → t0.may_leave c → Q c
  here c now = inl (subst (λ (l : List ℕ). Reads header l ps) (sym (o.durable c now)) o.reads)

  pub idle : ((c : List ℕ) → t0.honest → t0.left_since t0.moment c → t0.may_leave c) → LeavesOnly t0 t0 Q
  idle only_now = started t0 Q (λ c left. here c (only_now c o.honest left))

  -- an image that is the same up to the gate
  up_to_gate : (c : List ℕ) → take to_gate c ≡ take to_gate t0.seen → Reads header c ps
  up_to_gate c is =
      let op = opened header t0.seen ps o.reads in
      let front = op.front ++ op.gate ∷ [] in
      let one : length front ≡ to_gate =
      omega (arith, op.place, o.starts, o.counts, length-append op.front (op.gate ∷ [])) in
      let head : take to_gate c ≡ front = is
      ∙ ap (λ (l : List ℕ). take to_gate l) (op.is ∙ sym (append_assoc op.front (op.gate ∷ []) op.rest))
      ∙ take_at front op.rest to_gate one in
      let rest = drop to_gate c in
      let all : c ≡ op.front ++ op.gate ∷ rest = sym (take-append-drop to_gate c)
      ∙ ap (λ (l : List ℕ). l ++ rest) head ∙ append_assoc op.front (op.gate ∷ []) rest in
      subst (λ (l : List ℕ). Reads header l ps) (sym all) (closes header ps op.front op.gate rest op.is_front op.shut)

  long : to_gate ≤ length t0.seen
  long =
      let op = opened header t0.seen ps o.reads in
      omega (arith, op.place, o.starts, o.counts, ap length op.is, length-append op.front (op.gate ∷ op.rest))

  in_area : used + 1 ≤ area
  in_area = let op = opened header t0.seen ps o.reads in omega (arith, op.is_front.room, o.counts, o.size)

  -- an image that is the same in the first 64 bytes and from the area's start on
  from_start : (c : List ℕ) → take 64 c ≡ take 64 t0.seen → length t0.seen ≤ length c
      → drop start c ≡ drop start t0.seen → Reads header c ps
  from_start c first le rest =
      let n = list_at_of header t0.seen start ps o.starts o.reads in
      let kept : HasListAt header c start ps = record {
        made = made_same header c t0.seen first le n.made;
        same = header_same header c t0.seen first n.same;
        inside = n.inside;
        holds = subst (λ (l : List ℕ). Holds w32 (take (area_bytes header) l) ps) (sym rest) n.holds;
      } in
      reads_of header c start ps (start_same header c t0.seen first ∙ sym o.starts) kept

  -- It reads as the old list, and its first 64 bytes are the same.
  abbrev pub IsAsBefore : List ℕ → Type 0
  IsAsBefore c = Reads header c ps × (take 64 c ≡ take 64 t0.seen)

  far : 64 ≤ to_gate
  far = ⊎_elim (λ w. omega (arith, w.0)) (λ w. omega (arith, w.0)) beside

  -- what is the same in the first bytes is so in fewer of them
  narrower : (k n : ℕ) (c : List ℕ) → k ≤ n → take n c ≡ take n t0.seen → take k c ≡ take k t0.seen
  narrower k n c le is =
      sym (take-take k n c le) ∙ ap (λ (l : List ℕ). take k l) is ∙ take-take k n t0.seen le

  behind_gate : (n : ℕ) (c : List ℕ) → to_gate ≤ n → take n c ≡ take n t0.seen → IsAsBefore c
  behind_gate n c le is =
      (up_to_gate c (narrower to_gate n c le is), narrower 64 n c (omega (arith, far, le)) is)

  -- a write of the other area, inside the disk
  torn_inside : (c : List ℕ) → Torn other (length b) t0.seen c → IsAsBefore c
  torn_inside c torn = ⊎_elim second first beside
    where
      second : (start ≡ 64) × (other ≡ 64 + area) → IsAsBefore c
      second w = behind_gate other c (omega (arith, w.0, w.1, in_area)) torn.before

      first : (start ≡ 64 + area) × (other ≡ 64) → IsAsBefore c
      first w =
          let head : take 64 c ≡ take 64 t0.seen = ap (λ (k : ℕ). take k c) (sym w.1) ∙ torn.before
          ∙ ap (λ (k : ℕ). take k t0.seen) w.1 in
          let end = other + length b in
          let gap = area - length b in
          let back : end + gap ≡ start = omega (arith, w.0, w.1, fits) in
          let rest : drop start c ≡ drop start t0.seen = ap (λ (k : ℕ). drop k c) (sym back)
          ∙ sym (drop-drop gap end c) ∙ ap (λ (l : List ℕ). drop gap l) torn.after
          ∙ drop-drop gap end t0.seen ∙ ap (λ (k : ℕ). drop k t0.seen) back in
          (from_start c head torn.no_shorter rest, head)

  -- a write of the other area, past the disk's end
  torn_past : (n : ℕ) (c : List ℕ) → Torn (length t0.seen) n t0.seen c → IsAsBefore c
  torn_past n c torn = behind_gate (length t0.seen) c long torn.before

  -- what is written past the disk's end, with the gap before it
  abbrev beyond : ℕ
  beyond = other + length b - length t0.seen

  -- the first write, as far as a crash leaves it
  pub leaves1 : {T E : Type 0} {r : Result T E} (t1 : Told) → WroteSynced other b t0 t1 r → LeavesOnly t0 t1 Q
  leaves1 t1 w = elim (cases_lt (length t0.seen) other) [
    | inl lt ↦ widen t0 t1 (May (Torn (length t0.seen) beyond) t0.may_leave) Q past (w.leaves_past lt)
    | inr le ↦ widen t0 t1 (May (Torn other (length b)) t0.may_leave) Q inside (w.leaves le)
  ]
    where
      past : (c : List ℕ) → May (Torn (length t0.seen) beyond) t0.may_leave c → Q c
      past c (inl old) = here c old
      past c (inr from) =
          let torn = subst (λ (l : List ℕ). Torn (length t0.seen) beyond l c) (o.durable from.0 from.1) from.2 in
          inl (torn_past beyond c torn).0

      inside : (c : List ℕ) → May (Torn other (length b)) t0.may_leave c → Q c
      inside c (inl old) = here c old
      inside c (inr from) =
          let torn = subst (λ (l : List ℕ). Torn other (length b) l c) (o.durable from.0 from.1) from.2 in
          inl (torn_inside c torn).0

  -- the first write was synced
  module _ {T1 E1 : Type 0} {x1 : T1} (t1 : Told) (w1 : WroteSynced {T = T1} {E = E1} other b t0 t1 (Ok x1)) where
    abbrev BeginsWith : List ℕ → Type 0
    BeginsWith l = (more : List ℕ) × (l ≡ b ++ more)

    abbrev Known : Type 0
    Known = IsAsBefore t1.seen × BeginsWith (drop other t1.seen) × Only t1.seen t1.may_leave

    known : Known
    known = elim (cases_lt (length t0.seen) other) [ inl lt ↦ past lt | inr le ↦ inside le ]
      where
        past : length t0.seen < other → Known
        past lt =
            let w = w1.written_past lt in
            let gap = w.0.0 in
            let is : t1.seen ≡ t0.seen ++ (gap ++ b) = w.0.2 ∙ append_assoc t0.seen gap b in
            let all : t1.seen ≡ (t0.seen ++ gap) ++ b = w.0.2 in
            let end : length (t0.seen ++ gap) ≡ other = omega (arith, lt, w.0.1, length-append t0.seen gap) in
            let kept : take to_gate t1.seen ≡ take to_gate t0.seen =
            ap (λ (l : List ℕ). take to_gate l) is ∙ take-append-le to_gate t0.seen (gap ++ b) long in
            let rest : drop other t1.seen ≡ b ++ [] = ap (λ (l : List ℕ). drop other l) all
            ∙ drop_at (t0.seen ++ gap) b other end ∙ sym (append-nil b) in
            (behind_gate to_gate t1.seen (omega arith) kept, ([], rest), w.1)

        inside : other ≤ length t0.seen → Known
        inside le =
            let w = w1.written le in
            let front = take other t0.seen in
            let more = drop (other + length b) t0.seen in
            let is : t1.seen ≡ front ++ (b ++ more) = w.0 ∙ append_assoc front b more in
            let end : length front ≡ other = omega (arith, le, length-take other t0.seen) in
            let whole = torn_whole other b t0.seen le in
            let torn = subst (λ (l : List ℕ). Torn other (length b) t0.seen l) (sym w.0) whole in
            let rest = ap (λ (l : List ℕ). drop other l) is ∙ drop_at front (b ++ more) other end in
            (torn_inside t1.seen torn, (more, rest), w.1)

    has_old : HasListAt header t1.seen start ps
    has_old =
        let k = known in
        list_at_of header t1.seen start ps (o.starts ∙ sym (start_same header t1.seen t0.seen k.0.1)) k.0.0

    has_new : HasListAt header t1.seen other (p ∷ [])
    has_new =
        let k = known in
        let more = k.1.0 in
        let short : length (framed w32 p) ≤ area_bytes header = omega (arith, fits, o.size, ap length same) in
        let rest : drop other t1.seen ≡ framed w32 p ++ more = k.1.1 ∙ ap (λ (l : List ℕ). l ++ more) same in
        record {
          made = has_old.made;
          same = has_old.same;
          inside = ⊎_elim (λ w. omega (arith, w.1)) (λ w. omega (arith, w.1)) beside;
          holds = subst (λ (l : List ℕ). Holds w32 (take (area_bytes header) l) (p ∷ [])) (sym rest)
              (one_holds header p more short);
        }

    -- the disk with another selector
    abbrev selected : ℕ → List ℕ
    selected y = get_or t1.seen 0 0 ∷ y ∷ drop 2 t1.seen

    two_bytes : t1.seen ≡ selected (get_or t1.seen 1 0)
    two_bytes = two_first t1.seen (omega (arith, has_old.made.size))

    at_selected : (y s : ℕ) (list : List (List ℕ)) → HasListAt header t1.seen s list
        → HasListAt header (selected y) s list
    at_selected y s list n = other_selector header (get_or t1.seen 0 0) y (get_or t1.seen 1 0) (drop 2 t1.seen) s list
        (subst (λ (l : List ℕ). HasListAt header l s list) two_bytes n)

    -- whatever selector a crash leaves
    any_selector : (y : ℕ) → Q (selected y)
    any_selector y = ⊎_elim
        (λ is. inl (reads_of header (selected y) start ps is (at_selected y start ps has_old)))
        (λ is. inr (reads_of header (selected y) other (p ∷ []) is (at_selected y other (p ∷ []) has_new)))
        (one_of_two header start other y beside_bytes)

    held : (c : List ℕ) → t1.may_leave c → Q c
    held c now = inl (subst (λ (l : List ℕ). Reads header l ps) (sym (known.2 c now)) known.0.0)

    torn_selector : (c : List ℕ) → Torn 1 1 t1.seen c → Q c
    torn_selector c torn =
        let gate = get_or t1.seen 0 0 in
        let there = subst (λ (l : List ℕ). Torn 1 1 l c) two_bytes torn in
        let is = torn_gate (gate ∷ []) 1 refl (get_or t1.seen 1 0) (drop 2 t1.seen) c there in
        subst Q (sym is) (any_selector (get_or c 1 0))

    inside1 : 1 ≤ length t1.seen
    inside1 = omega (arith, has_old.made.size)

    -- the second write, as far as a crash leaves it
    pub leaves2 : {T E : Type 0} {r : Result T E} (selector : ℕ) (t2 : Told)
        → WroteSynced 1 (selector ∷ []) t1 t2 r → LeavesOnly t0 t2 Q
    leaves2 selector t2 w =
        and_then t0 t1 t2 Q (leaves1 t1 w1) (widen t1 t2 (May (Torn 1 1) t1.may_leave) Q wider (w.leaves inside1))
      where
        wider : (c : List ℕ) → May (Torn 1 1) t1.may_leave c → Q c
        wider c (inl old) = held c old
        wider c (inr from) = torn_selector c (subst (λ (l : List ℕ). Torn 1 1 l c) (known.2 from.0 from.1) from.2)

    -- both were synced
    pub done : {T E : Type 0} {x : T} (selector : ℕ) (t2 : Told) → 64 + selector % 2 * area ≡ other
        → WroteSynced {T = T} {E = E} 1 (selector ∷ []) t1 t2 (Ok x)
        → IsOpen t2 header other (length b - 1) area (p ∷ [])
    done selector t2 names w =
        let written = w.written inside1 in
        let is : t2.seen ≡ selected selector = written.0 ∙ ap (λ (l : List ℕ). put l 1 (selector ∷ [])) two_bytes in
        let at : 64 + selector % 2 * area_bytes header ≡ other =
        ap (λ (n : ℕ). 64 + selector % 2 * n) (sym o.size) ∙ names in
        let new = at_selected selector other (p ∷ []) has_new in
        let reads = reads_of header (selected selector) other (p ∷ []) at new in
        record {
          honest = w.honest;
          whole = o.whole;
          reads = subst (λ (l : List ℕ). Reads header l (p ∷ [])) (sym is) reads;
          starts = sym at ∙ ap (λ (l : List ℕ). start_of header l) (sym is);
          counts = omega (arith, ap length same, length-append (body w32 p) (0 ∷ []), length-append (body w32 p) []);
          size = o.size;
          durable = written.1;
        }

pub failed : {D T : Type 0} (told : D → Told) (header : Header) (old new : Store D) (ps : List (List ℕ)) (p : List ℕ)
    (r : Result T JournalFault) → r ≡ Err DiskFault → IsHeader header → (told new.journal.disk).honest
    → LeavesOnly (told old.journal.disk) (told new.journal.disk) (IsOldOrSnapshot header ps p)
    → ((c : List ℕ) → (told new.journal.disk).may_leave c
    → (told new.journal.disk).left_since (told old.journal.disk).moment c)
    → Truncating told header old ps p new r
failed told header old new ps p r is whole h leaves now =
    let doubt : IsInDoubt (told new.journal.disk) header ps p =
    record { honest = h; whole = whole; each = λ c left. leaves.each c (now c left) } in
    record { any_moment = leaves; answers = subst (λ x. TruncateAnswers told header ps p new x) (sym is) doubt }

-- the area that is chosen, and its selector
module _ (header : Header) (start used area : ℕ) (ps : List (List ℕ)) (t0 : Told)
    (o : IsOpen t0 header start used area ps) (other selector : ℕ)
    (second : start ≡ 64 → (other ≡ 64 + area) × (selector ≡ 1))
    (first : start ≢ 64 → (other ≡ 64) × (selector ≡ 0)) where
  at_bit : (n : ℕ) → n ≡ get_or t0.seen 1 0 % 2 → n < 2 → (start ≡ 64) ⊎ (start ≡ 64 + area)
  at_bit zero is lt = inl (o.starts ∙ ap (λ (k : ℕ). 64 + k * area_bytes header) (sym is) ∙ omega arith)
  at_bit (suc zero) is lt =
      inr (o.starts ∙ ap (λ (k : ℕ). 64 + k * area_bytes header) (sym is) ∙ omega (arith, o.size))
  at_bit (suc (suc n)) is lt = absurd (omega (arith, lt))

  either : (start ≡ 64) ⊎ (start ≡ 64 + area)
  either = at_bit (get_or t0.seen 1 0 % 2) refl (omega arith)

  elsewhere : start ≡ 64 + area → start ≢ 64
  elsewhere e f = omega (arith, e, f, o.size, o.whole.smallest)

  pub are_beside : AreBeside area start other
  are_beside = ⊎_elim (λ e. inl (e, (second e).0)) (λ e. inr (e, (first (elsewhere e)).0)) either

  pub selects : 64 + selector % 2 * area ≡ other
  selects = ⊎_elim to_second to_first either
    where
      to_second : start ≡ 64 → 64 + selector % 2 * area ≡ other
      to_second e =
          let w = second e in
          let one : 64 + 1 % 2 * area ≡ 64 + area = omega arith in
          ap (λ (k : ℕ). 64 + k % 2 * area) w.1 ∙ one ∙ sym w.0

      to_first : start ≡ 64 + area → 64 + selector % 2 * area ≡ other
      to_first e =
          let w = first (elsewhere e) in
          let none : 64 + 0 % 2 * area ≡ 64 = omega arith in
          ap (λ (k : ℕ). 64 + k % 2 * area) w.1 ∙ none ∙ sym w.0
