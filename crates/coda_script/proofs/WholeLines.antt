-- Reading and spelling are each other's inverse, for whole lines.
use Rattle.std.proofs.Common.{◌≡◌, ℕ, ◌+◌, true, ◌⊎◌, inl, inr, List, [], ◌∷◌, Option, Some, None, Result, Ok, Err, refl, sym, ap, subst, ◌∙◌}
use Rattle.std.specs.Prelude.{codes, IfOk, IfSome, IfNone}
use Rattle.std.specs.Option.{option_map_or}
use Rattle.coda_engine.specs.declared.status.Kind.TheVariants as kinds
use Rattle.coda_text.specs.Words.{Split, Word, split_of}
use Rattle.coda_script.specs.declared.fault.LineFault.{LineFault}
use Rattle.coda_script.specs.declared.line.Line.{Line}
use Rattle.coda_script.specs.declared.line.Line.TheVariants.{Task, At}
use Rattle.coda_script.specs.declared.line.Task.{Task as ATask}
use Rattle.coda_script.specs.declared.turns.Turns.{Turns}
use Rattle.coda_script.specs.declared.turns.Turns.TheVariants.{Unnamed, Thread, Several}
use Rattle.coda_script.specs.Outcome.{Gives}
use Rattle.coda_script.specs.Slots.{between, number_in, is_word}
use Rattle.coda_script.specs.Reading.{Fault, ◌>>=◌, missing, read}
use Rattle.coda_script.specs.Table.{script}
use Rattle.coda_script.specs.Lines.{is_silent, turns_at, placed, read_words, line_of}
use Rattle.coda_script.specs.Spelling.{begins, Spells, SpellsLine, Says, words_of}
use Rattle.coda_script.specs.Ranges.{InRange}
use Rattle.coda_script.proofs.InRanges.{spelled_in_range}
use Rattle.coda_script.proofs.Binding.{split, texts, ok_is, some_is, bind_ok, chosen, option_ok, next_begins, texts_cons, word_is}
use Rattle.coda_script.proofs.Avoiding.{script_avoids_at}
use Rattle.coda_script.proofs.TurnSteps.{turns_stop}
use Rattle.coda_script.proofs.AnyForm.{sound, complete}

-- ---- the threads that a line names

several_stay : (ws : List Word) (end : ℕ) (breaks : Option ℕ) (x : Turns × Split) → turns_at Several (split ws end breaks) ws ≡ Ok x → x.0 ≡ Several
unfolding turns_at
several_stay [] end breaks x e = sym (ap (λ (q : Turns × Split). q.0) (ok_is (Several, split [] end breaks) x e))
several_stay (w ∷ []) end breaks x e =
    elim (chosen (is_word (codes "at") w.text) (Err (missing (split (w ∷ []) end breaks))) (Ok (Several, split (w ∷ []) end breaks)) (Ok x) e) [
      | inl t ↦ absurd (let f = t.1 in cc)
      | inr t ↦ sym (ap (λ (q : Turns × Split). q.0) (ok_is (Several, split (w ∷ []) end breaks) x t.1))
    ]
several_stay (w ∷ v ∷ ws) end breaks x e =
    elim (chosen (is_word (codes "at") w.text) (option_map_or (λ t. turns_at Several (split ws end breaks) ws) (number_in (between 1 8) v.text) (Err (v.at + 1, kinds.Number))) (Ok (Several, split (w ∷ v ∷ ws) end breaks)) (Ok x) e) [
      | inl t ↦
          let o = option_ok (number_in (between 1 8) v.text) (λ t. turns_at Several (split ws end breaks) ws) (v.at + 1, kinds.Number) x t.1 in
          several_stay ws end breaks x o.2
      | inr t ↦ sym (ap (λ (q : Turns × Split). q.0) (ok_is (Several, split (w ∷ v ∷ ws) end breaks) x t.1))
    ]

one_stays : (ws : List Word) (end : ℕ) (breaks : Option ℕ) (thread : ℕ) (x : Turns × Split) → turns_at (Thread thread) (split ws end breaks) ws ≡ Ok x → (x ≡ (Thread thread, split ws end breaks)) ⊎ (x.0 ≡ Several)
unfolding turns_at
one_stays [] end breaks thread x e = inl (sym (ok_is (Thread thread, split [] end breaks) x e))
one_stays (w ∷ []) end breaks thread x e =
    elim (chosen (is_word (codes "at") w.text) (Err (missing (split (w ∷ []) end breaks))) (Ok (Thread thread, split (w ∷ []) end breaks)) (Ok x) e) [
      | inl t ↦ absurd (let f = t.1 in cc)
      | inr t ↦ inl (sym (ok_is (Thread thread, split (w ∷ []) end breaks) x t.1))
    ]
one_stays (w ∷ v ∷ ws) end breaks thread x e =
    elim (chosen (is_word (codes "at") w.text) (option_map_or (λ t. turns_at Several (split ws end breaks) ws) (number_in (between 1 8) v.text) (Err (v.at + 1, kinds.Number))) (Ok (Thread thread, split (w ∷ v ∷ ws) end breaks)) (Ok x) e) [
      | inl t ↦
          let o = option_ok (number_in (between 1 8) v.text) (λ t. turns_at Several (split ws end breaks) ws) (v.at + 1, kinds.Number) x t.1 in
          inr (several_stay ws end breaks x o.2)
      | inr t ↦ inl (sym (ok_is (Thread thread, split (w ∷ v ∷ ws) end breaks) x t.1))
    ]

-- the words are those of one thread and what is behind it
record TookThread (ws : List Word) (end : ℕ) (breaks : Option ℕ) (x : Turns × Split) : Type 0 where
  pub at : Word
  pub turn : Word
  pub rest : List Word
  pub thread : ℕ
  pub words : ws ≡ at ∷ turn ∷ rest
  pub is_at : at.text ≡ codes "at"
  pub number : number_in (between 1 8) turn.text ≡ Some thread
  pub left : (x ≡ (Thread thread, split rest end breaks)) ⊎ (x.0 ≡ Several)

turns_took : (ws : List Word) (end : ℕ) (breaks : Option ℕ) (x : Turns × Split) → turns_at Unnamed (split ws end breaks) ws ≡ Ok x → (x ≡ (Unnamed, split ws end breaks)) ⊎ TookThread ws end breaks x
unfolding turns_at
turns_took [] end breaks x e = inl (sym (ok_is (Unnamed, split [] end breaks) x e))
turns_took (w ∷ []) end breaks x e =
    elim (chosen (is_word (codes "at") w.text) (Err (missing (split (w ∷ []) end breaks))) (Ok (Unnamed, split (w ∷ []) end breaks)) (Ok x) e) [
      | inl t ↦ absurd (let f = t.1 in cc)
      | inr t ↦ inl (sym (ok_is (Unnamed, split (w ∷ []) end breaks) x t.1))
    ]
turns_took (w ∷ v ∷ ws) end breaks x e =
    elim (chosen (is_word (codes "at") w.text) (option_map_or (λ t. turns_at (Thread t) (split ws end breaks) ws) (number_in (between 1 8) v.text) (Err (v.at + 1, kinds.Number))) (Ok (Unnamed, split (w ∷ v ∷ ws) end breaks)) (Ok x) e) [
      | inl t ↦
          let o = option_ok (number_in (between 1 8) v.text) (λ t. turns_at (Thread t) (split ws end breaks) ws) (v.at + 1, kinds.Number) x t.1 in
          inr (record { at = w; turn = v; rest = ws; thread = o.0; words = refl; is_at = word_is (codes "at") w.text t.0; number = o.1; left = one_stays ws end breaks o.0 x o.2 })
      | inr t ↦ inl (sym (ok_is (Unnamed, split (w ∷ v ∷ ws) end breaks) x t.1))
    ]

-- ---- what may stand behind them

placed_in_thread : (thread : ℕ) (line said : Line) → placed (Thread thread) line ≡ Ok said → (task : ATask) × (line ≡ Task task) × (said ≡ At thread task)
placed_in_thread thread (Task task) said e = (task, refl, sym (ok_is (At thread task) said e))
placed_in_thread thread line said e = absurd cc

-- ---- the words of a line

-- what was read behind the threads that were taken
behind_turns : (ws : List Word) (end : ℕ) (breaks : Option ℕ) (x : Turns × Split) (line said : Line) → (x ≡ (Unnamed, split ws end breaks)) ⊎ TookThread ws end breaks x → read script x.1 ≡ Ok line → placed x.0 line ≡ Ok said
    → (breaks ≡ None) × SpellsLine (texts ws) said
behind_turns ws end breaks x line said (inl t) r p =
    let l = ok_is line said (subst (λ (y : Turns × Split). placed y.0 line ≡ Ok said) t p) in
    let s = sound script ws end breaks line (subst (λ (y : Turns × Split). read script y.1 ≡ Ok line) t r) in
    (s.0, inl (subst (λ (y : Line). Spells script (texts ws) y) l s.1))
behind_turns ws end breaks x line said (inr t) r p =
    elim t.left [
      | inl one ↦
          let task = placed_in_thread t.thread line said (subst (λ (y : Turns × Split). placed y.0 line ≡ Ok said) one p) in
          let s = sound script t.rest end breaks line (subst (λ (y : Turns × Split). read script y.1 ≡ Ok line) one r) in (
            s.0,
            inr (record {
              turn = t.turn.text;
              thread = t.thread;
              rest = texts t.rest;
              task = task.0;
              words = ap texts t.words ∙ ap (λ (w : List ℕ). w ∷ t.turn.text ∷ texts t.rest) t.is_at;
              number = t.number;
              spelled = subst (λ (y : Line). Spells script (texts t.rest) y) task.1 s.1;
              says = task.2;
            }),
          )
      | inr several ↦ absurd (let q = subst (λ (y : Turns). placed y line ≡ Ok said) several p in cc)
    ]

words_sound : (ws : List Word) (end : ℕ) (breaks : Option ℕ) (said : Line) → read_words (split ws end breaks) ≡ Ok said → (breaks ≡ None) × SpellsLine (texts ws) said
unfolding read_words
words_sound ws end breaks said e =
    let b = bind_ok (turns_at Unnamed (split ws end breaks) ws) (λ turns. read script turns.1 >>= λ line. placed turns.0 line) said e in
    let l = bind_ok (read script b.0.1) (λ line. placed b.0.0 line) said b.2 in
    behind_turns ws end breaks b.0 l.0 said (turns_took ws end breaks b.0 b.1) l.1 l.2

-- no thread is named before what the table's words spell
plain_stop : (ws : List Word) (end : ℕ) (breaks : Option ℕ) (seen : Turns) (line : Line) → Spells script (texts ws) line → turns_at seen (split ws end breaks) ws ≡ Ok (seen, split ws end breaks)
plain_stop ws end breaks seen line s = turns_stop (split ws end breaks) seen (next_begins (is_word (codes "at")) ws ∙ script_avoids_at (texts ws) line s)

thread_goes : (w v : Word) (ws : List Word) (end : ℕ) (breaks : Option ℕ) (thread : ℕ) → w.text ≡ codes "at" → number_in (between 1 8) v.text ≡ Some thread
    → turns_at Unnamed (split (w ∷ v ∷ ws) end breaks) (w ∷ v ∷ ws) ≡ turns_at (Thread thread) (split ws end breaks) ws
unfolding turns_at
thread_goes w v ws end breaks thread e n = rw (e, n) refl

words_complete : (ws : List Word) (end : ℕ) (said : Line) → SpellsLine (texts ws) said → read_words (split ws end None) ≡ Ok said
unfolding read_words
words_complete ws end said (inl s) = rw (plain_stop ws end None Unnamed said s, complete script ws end said s) refl
words_complete ws end said (inr s) =
    let w = texts_cons ws (codes "at") (s.turn ∷ s.rest) s.words in
    let v = texts_cons w.1 s.turn s.rest w.4 in
    let spelled = subst (λ (ts : List (List ℕ)). Spells script ts (Task s.task)) (sym v.4) s.spelled in
    let whole : ws ≡ w.0 ∷ v.0 ∷ v.1 = w.2 ∙ ap (λ (r : List Word). w.0 ∷ r) v.2 in
    rw (whole, thread_goes w.0 v.0 v.1 end None s.thread w.3 (rw v.3 s.number), plain_stop v.1 end None (Thread s.thread) (Task s.task) spelled, complete script v.1 end (Task s.task) spelled, s.says) refl

-- ---- whole lines

pub is_found : (line : List ℕ) (r : Result (Option Line) LineFault) → Gives (λ o. o) r (line_of line) → IfOk r (λ o. IfSome o (λ said. Says line said))
unfolding line_of
is_found line (Err e) g = tt
is_found line (Ok None) g = tt
is_found line (Ok (Some said)) g =
    elim (chosen (is_silent line) (Ok None) (read_words (split_of line) >>= (λ l. Ok (Some l))) (Ok (Some said)) g) [
      | inl t ↦ absurd (let e = t.1 in cc)
      | inr t ↦
          let b = bind_ok (read_words (split_of line)) (λ l. Ok (Some l)) (Some said) t.1 in
          let s = words_sound (split_of line).words (split_of line).end (split_of line).breaks b.0 b.1 in
          subst (λ (l : Line). Says line l) (some_is b.0 said (ok_is (Some b.0) (Some said) b.2)) (record { loud = t.0; whole = s.0; spelled = s.1 })
    ]

pub is_only : (line : List ℕ) (said : Line) → Says line said → line_of line ≡ Ok (Some said)
unfolding line_of
is_only line said s =
    let t = split_of line in
    let e : read_words (split t.words t.end t.breaks) ≡ Ok said = rw s.whole (words_complete t.words t.end said s.spelled) in
    rw (s.loud, e) refl

pub is_silent_then : (line : List ℕ) (r : Result (Option Line) LineFault) → Gives (λ o. o) r (line_of line) → IfOk r (λ o. IfNone o (is_silent line ≡ true))
unfolding line_of
is_silent_then line (Err e) g = tt
is_silent_then line (Ok (Some said)) g = tt
is_silent_then line (Ok None) g =
    elim (chosen (is_silent line) (Ok None) (read_words (split_of line) >>= (λ l. Ok (Some l))) (Ok None) g) [
      | inl t ↦ t.0
      | inr t ↦ let b = bind_ok (read_words (split_of line)) (λ l. Ok (Some l)) None t.1 in absurd (let e = b.2 in cc)
    ]

pub is_in_range : (line : List ℕ) (r : Result (Option Line) LineFault) → IfOk r (λ o. IfSome o (λ said. Says line said)) → IfOk r (λ o. IfSome o InRange)
is_in_range line (Err e) s = tt
is_in_range line (Ok None) s = tt
is_in_range line (Ok (Some said)) s = spelled_in_range (words_of line) said s.spelled
