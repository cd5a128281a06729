-- Reading and spelling are each other's inverse, in any form.
use Rattle.std.proofs.Common.{◌≡◌, ℕ, ◌+◌, false, ◌⊎◌, inl, inr, List, [], ◌∷◌, map, Option, Some, None, Result, Ok, refl, sym, ap, subst, ◌∙◌}
use Rattle.std.proofs.lemmas.List.{map-append}
use Rattle.coda_engine.specs.declared.status.Kind.{Kind}
use Rattle.coda_engine.specs.declared.status.Kind.TheVariants as kinds
use Rattle.coda_text.specs.Words.{Split, Word, rest_of}
use Rattle.coda_script.specs.declared.line.Line.{Line}
use Rattle.coda_script.specs.Slots.{NumberSlot, number_in, path_in, name_in, rights_in, text_in, is_word, is_server}
use Rattle.coda_script.specs.Form.{Form, ends, nothing, either, a_number, a_path, a_name, some_rights, a_text, perhaps, servers_above}
use Rattle.coda_script.specs.Reading.{Fault, ◌>>=◌, slot_at, end_at, is_next, servers_at, option_at, read}
use Rattle.coda_script.specs.Spelling.{begins, Spells}
use Rattle.coda_script.proofs.Binding.{split, texts, ok_is, bind_ok, chosen, option_ok, next_begins, texts_cons, texts_nil, first_is, is_itself}
use Rattle.coda_script.proofs.ServerLists.{servers_took, servers_again, texts_parts}

-- ---- what each part took

abbrev Took : {A : Type 0} → (List ℕ → Option A) → List Word → ℕ → Option ℕ → A × Split → Type 0
Took {A} value ws end breaks x = (w : Word) × (rest : List Word) × (ws ≡ w ∷ rest) × (value w.text ≡ Some x.0) × (x.1 ≡ split rest end breaks)

slot_took : {A : Type 0} (kind : Kind) (value : List ℕ → Option A) (ws : List Word) (end : ℕ) (breaks : Option ℕ) (x : A × Split) → slot_at kind value (split ws end breaks) ≡ Ok x → Took value ws end breaks x
unfolding slot_at
slot_took kind value [] end breaks x e = absurd cc
slot_took {A} kind value (w ∷ ws) end breaks x e =
    let o = option_ok (value w.text) (λ (y : A). let r : Result (A × Split) Fault = Ok (y, split ws end breaks) in r) (w.at + 1, kind) x e in
    let p = ok_is (o.0, split ws end breaks) x o.2 in
    (w, ws, refl, o.1 ∙ ap (λ (q : A × Split). let r : Option A = Some q.0 in r) p, sym (ap (λ (q : A × Split). q.1) p))

slot_again : {A : Type 0} (kind : Kind) (value : List ℕ → Option A) (w : Word) (ws : List Word) (end : ℕ) (breaks : Option ℕ) (x : A) → value w.text ≡ Some x → slot_at kind value (split (w ∷ ws) end breaks) ≡ Ok (x, split ws end breaks)
unfolding slot_at
slot_again kind value w ws end breaks x e = rw e refl

end_took : (kind : Kind) (l : Line) (ws : List Word) (end : ℕ) (breaks : Option ℕ) (line : Line) → end_at kind l (split ws end breaks) ws ≡ Ok line → (breaks ≡ None) × (texts ws ≡ []) × (line ≡ l)
end_took kind l [] end None line e = (refl, refl, cc)
end_took kind l [] end (Some b) line e = absurd cc
end_took kind l (w ∷ ws) end breaks line e = absurd cc

option_took : (word : List ℕ) (slot : NumberSlot) (ws : List Word) (end : ℕ) (breaks : Option ℕ) (x : Option ℕ × Split) → option_at word slot (split ws end breaks) ≡ Ok x
    → ((v : Word) × (w : Word) × (rest : List Word) × (ws ≡ v ∷ w ∷ rest) × (v.text ≡ word) × (n : ℕ) × (number_in slot w.text ≡ Some n) × (x ≡ (Some n, split rest end breaks)))
    ⊎ ((is_next (is_word word) ws ≡ false) × (x ≡ (None, split ws end breaks)))
unfolding option_at
option_took word slot ws end breaks x e =
    elim (chosen (is_next (is_word word) ws) (slot_at kinds.Number (number_in slot) (rest_of (split ws end breaks)) >>= (λ n. Ok (Some n.0, n.1))) (Ok (None, split ws end breaks)) (Ok x) e) [
      | inl t ↦
          let v = first_is word ws t.0 in
          let e' : (slot_at kinds.Number (number_in slot) (rest_of (split (v.0 ∷ v.1) end breaks)) >>= (λ n. Ok (Some n.0, n.1))) ≡ Ok x = rw v.2 at t.1 in
          let b = bind_ok (slot_at kinds.Number (number_in slot) (split v.1 end breaks)) (λ n. Ok (Some n.0, n.1)) x e' in
          let k = slot_took kinds.Number (number_in slot) v.1 end breaks b.0 b.1 in
          inl (v.0, k.0, k.1, v.2 ∙ ap (λ (r : List Word). v.0 ∷ r) k.2, v.3, b.0.0, k.3, sym (ok_is (Some b.0.0, b.0.1) x b.2) ∙ ap (λ (r : Split). let p : Option ℕ × Split = (Some b.0.0, r) in p) k.4)
      | inr t ↦ inr (t.0, sym (ok_is (None, split ws end breaks) x t.1))
    ]

option_again : (word : List ℕ) (slot : NumberSlot) (v w : Word) (rest : List Word) (end : ℕ) (breaks : Option ℕ) (n : ℕ) → v.text ≡ word → number_in slot w.text ≡ Some n → option_at word slot (split (v ∷ w ∷ rest) end breaks) ≡ Ok (Some n, split rest end breaks)
unfolding option_at
option_again word slot v w rest end breaks n e f = rw (e, is_itself word, slot_again kinds.Number (number_in slot) w rest end breaks n f) refl

option_none : (word : List ℕ) (slot : NumberSlot) (ws : List Word) (end : ℕ) (breaks : Option ℕ) → is_next (is_word word) ws ≡ false → option_at word slot (split ws end breaks) ≡ Ok (None, split ws end breaks)
unfolding option_at
option_none word slot ws end breaks f = rw f refl

-- ---- any form

-- the words that spell in a form are those
spells_at : (f : Form) (line : Line) (a b : List (List ℕ)) → a ≡ b → Spells f b line → Spells f a line
spells_at f line a b e s = subst (λ (ts : List (List ℕ)). Spells f ts line) (sym e) s

-- what is read is spelled so
pub sound : (f : Form) (ws : List Word) (end : ℕ) (breaks : Option ℕ) (line : Line) → read f (split ws end breaks) ≡ Ok line → (breaks ≡ None) × Spells f (texts ws) line
sound (ends kind l) ws end breaks line e = let t = end_took kind l ws end breaks line e in (t.0, (t.1, t.2))
sound nothing ws end breaks line e = absurd cc
sound (either word so other) ws end breaks line e =
    elim (chosen (is_next (is_word word) ws) (read so (rest_of (split ws end breaks))) (read other (split ws end breaks)) (Ok line) e) [
      | inl t ↦
          let w = first_is word ws t.0 in
          let e' : read so (rest_of (split (w.0 ∷ w.1) end breaks)) ≡ Ok line = rw w.2 at t.1 in
          let s = sound so w.1 end breaks line e' in
          (s.0, inl (texts w.1, ap texts w.2 ∙ ap (λ (r : List ℕ). r ∷ texts w.1) w.3, s.1))
      | inr t ↦ let s = sound other ws end breaks line t.1 in (s.0, inr (sym (next_begins (is_word word) ws) ∙ t.0, s.1))
    ]
sound (a_number slot next) ws end breaks line e =
    let b = bind_ok (slot_at kinds.Number (number_in slot) (split ws end breaks)) (λ n. read (next n.0) n.1) line e in
    let t = slot_took kinds.Number (number_in slot) ws end breaks b.0 b.1 in
    let s = sound (next b.0.0) t.1 end breaks line (rw t.4 at b.2) in
    (s.0, (t.0.text, texts t.1, ap texts t.2, b.0.0, t.3, s.1))
sound (a_path next) ws end breaks line e =
    let b = bind_ok (slot_at kinds.Path path_in (split ws end breaks)) (λ n. read (next n.0) n.1) line e in
    let t = slot_took kinds.Path path_in ws end breaks b.0 b.1 in
    let s = sound (next b.0.0) t.1 end breaks line (rw t.4 at b.2) in
    (s.0, (t.0.text, texts t.1, ap texts t.2, b.0.0, t.3, s.1))
sound (a_name next) ws end breaks line e =
    let b = bind_ok (slot_at kinds.Path name_in (split ws end breaks)) (λ n. read (next n.0) n.1) line e in
    let t = slot_took kinds.Path name_in ws end breaks b.0 b.1 in
    let s = sound (next b.0.0) t.1 end breaks line (rw t.4 at b.2) in
    (s.0, (t.0.text, texts t.1, ap texts t.2, b.0.0, t.3, s.1))
sound (some_rights next) ws end breaks line e =
    let b = bind_ok (slot_at kinds.Word rights_in (split ws end breaks)) (λ n. read (next n.0) n.1) line e in
    let t = slot_took kinds.Word rights_in ws end breaks b.0 b.1 in
    let s = sound (next b.0.0) t.1 end breaks line (rw t.4 at b.2) in
    (s.0, (t.0.text, texts t.1, ap texts t.2, b.0.0, t.3, s.1))
sound (a_text slot next) ws end breaks line e =
    let b = bind_ok (slot_at kinds.Text (text_in slot) (split ws end breaks)) (λ n. read (next n.0) n.1) line e in
    let t = slot_took kinds.Text (text_in slot) ws end breaks b.0 b.1 in
    let s = sound (next b.0.0) t.1 end breaks line (rw t.4 at b.2) in
    (s.0, (t.0.text, texts t.1, ap texts t.2, b.0.0, t.3, s.1))
sound (perhaps word slot next) ws end breaks line e =
    let b = bind_ok (option_at word slot (split ws end breaks)) (λ n. read (next n.0) n.1) line e in
    elim (option_took word slot ws end breaks b.0 b.1) [
      | inl t ↦
          let r : read (next (Some t.5)) (split t.2 end breaks) ≡ Ok line = rw t.7 at b.2 in
          let s = sound (next (Some t.5)) t.2 end breaks line r in
          (s.0, inl (t.1.text, texts t.2, ap texts t.3 ∙ ap (λ (r : List ℕ). r ∷ t.1.text ∷ texts t.2) t.4, t.5, t.6, s.1))
      | inr t ↦
          let r : read (next None) (split ws end breaks) ≡ Ok line = rw t.1 at b.2 in
          let s = sound (next None) ws end breaks line r in
          (s.0, inr (sym (next_begins (is_word word) ws) ∙ t.0, s.1))
    ]
sound (servers_above all last next) ws end breaks line e =
    let b = bind_ok (servers_at all last (split ws end breaks) ws) (λ n. read (next n.0) n.1) line e in
    let t = servers_took all ws last end breaks b.0 b.1 in
    let s = sound (next b.0.0) t.1 end breaks line (rw t.5 at b.2) in
    (s.0, (texts t.0, texts t.1, ap texts t.2 ∙ map-append (λ (w : Word). w.text) t.0 t.1, b.0.0, t.3, sym (next_begins (is_server all) t.1) ∙ t.4, s.1))

-- what is spelled so is read
pub complete : (f : Form) (ws : List Word) (end : ℕ) (line : Line) → Spells f (texts ws) line → read f (split ws end None) ≡ Ok line
complete (ends kind l) ws end line s = rw (texts_nil ws s.0, s.1) refl
complete nothing ws end line s = absurd s
complete (either word so other) ws end line (inl s) =
    let w = texts_cons ws word s.0 s.1 in
    rw (w.2, w.3, is_itself word) (complete so w.1 end line (spells_at so line (texts w.1) s.0 w.4 s.2))
complete (either word so other) ws end line (inr s) = rw (next_begins (is_word word) ws, s.0) (complete other ws end line s.1)
complete (a_number slot next) ws end line s =
    let w = texts_cons ws s.0 s.1 s.2 in
    rw (w.2, slot_again kinds.Number (number_in slot) w.0 w.1 end None s.3 (rw w.3 s.4)) (complete (next s.3) w.1 end line (spells_at (next s.3) line (texts w.1) s.1 w.4 s.5))
complete (a_path next) ws end line s =
    let w = texts_cons ws s.0 s.1 s.2 in
    rw (w.2, slot_again kinds.Path path_in w.0 w.1 end None s.3 (rw w.3 s.4)) (complete (next s.3) w.1 end line (spells_at (next s.3) line (texts w.1) s.1 w.4 s.5))
complete (a_name next) ws end line s =
    let w = texts_cons ws s.0 s.1 s.2 in
    rw (w.2, slot_again kinds.Path name_in w.0 w.1 end None s.3 (rw w.3 s.4)) (complete (next s.3) w.1 end line (spells_at (next s.3) line (texts w.1) s.1 w.4 s.5))
complete (some_rights next) ws end line s =
    let w = texts_cons ws s.0 s.1 s.2 in
    rw (w.2, slot_again kinds.Word rights_in w.0 w.1 end None s.3 (rw w.3 s.4)) (complete (next s.3) w.1 end line (spells_at (next s.3) line (texts w.1) s.1 w.4 s.5))
complete (a_text slot next) ws end line s =
    let w = texts_cons ws s.0 s.1 s.2 in
    rw (w.2, slot_again kinds.Text (text_in slot) w.0 w.1 end None s.3 (rw w.3 s.4)) (complete (next s.3) w.1 end line (spells_at (next s.3) line (texts w.1) s.1 w.4 s.5))
complete (perhaps word slot next) ws end line (inl s) =
    let v = texts_cons ws word (s.0 ∷ s.1) s.2 in
    let w = texts_cons v.1 s.0 s.1 v.4 in
    rw (v.2, w.2, option_again word slot v.0 w.0 w.1 end None s.3 v.3 (rw w.3 s.4)) (complete (next (Some s.3)) w.1 end line (spells_at (next (Some s.3)) line (texts w.1) s.1 w.4 s.5))
complete (perhaps word slot next) ws end line (inr s) = rw (option_none word slot ws end None (next_begins (is_word word) ws ∙ s.0)) (complete (next None) ws end line s.1)
complete (servers_above all last next) ws end line s =
    let p = texts_parts ws s.0 s.1 s.2 in
    let d : is_next (is_server all) p.1 ≡ false = next_begins (is_server all) p.1 ∙ ap (begins (is_server all)) p.4 ∙ s.5 in
    rw (p.2, servers_again all p.0 p.1 last end None s.3 (rw p.3 s.4) d) (complete (next s.3) p.1 end line (spells_at (next s.3) line (texts p.1) s.1 p.4 s.6))
