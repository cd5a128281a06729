-- What a client's log mentions is cached or taken out.
use Rattle.std.proofs.Common.{◌≡◌, ℕ, Bool, true, false, cond, ◌||◌, List, [], ◌∷◌, ◌++◌, take, drop, Option, Some}
use Rattle.std.proofs.Common.{None, IsSome, is_some, option_map, refl, sym, ap, ◌∙◌, subst, ⊎_elim, inl, inr, ◌⊎◌}
use Rattle.std.proofs.lemmas.Bool.{or_parts, or_cases, or_left, or_right, false≢true, false_from_ne_true, cases_Bool}
use Rattle.std.proofs.lemmas.Bool.{eq-eqb}
use Rattle.std.proofs.lemmas.List.{take-append-drop}
use Rattle.std.specs.FinMap as map
use Rattle.coda_fid.specs.Fid.{same_fid}
use Rattle.coda_fid.specs.declared.fid.Fid.{Fid}
use Rattle.coda_fid.specs.declared.fid.Sid.{Sid}
use Rattle.coda_fid.specs.declared.op.Op.{Op}
use Rattle.coda_fid.specs.declared.op.Op.TheVariants as op
use Rattle.coda_fid.specs.declared.op.Record.{Record}
use Rattle.coda_fid.proofs.Fids.{fids_total, exact_fids}
use Rattle.coda_tree.specs.declared.node.Node.{Node}
use Rattle.coda_tree.specs.Bindings.{Name}
use Rattle.coda_tree.specs.Volume.{Nodes, has, IsDirNode, Edit, Put, Bind, TakeOut, Unbind, Write}
use Rattle.coda_tree.proofs.Order.{get_here, get_else, gone_else, fid_cases}
use Rattle.coda_certify.specs.Replay.{effects, sid_of, applied, empty_file, empty_dir, new_link}
use Rattle.coda_certify.specs.declared.verdict.Verdict.{Verdict}
use Rattle.coda_certify.specs.declared.verdict.Verdict.TheVariants.{Applied, Conflict}
use Rattle.coda_cancel.specs.Cancel.{add, added}
use Rattle.coda_cancel.specs.Dropping.{mentioning, creates}
use Rattle.coda_cancel.proofs.Keys.{fid_true, fid_same}
use Rattle.coda_cml.specs.Steady.{any_record}
use Rattle.coda_cml.specs.Steps.{records_in}
use Rattle.coda_cml.proofs.runs.WithoutObject.{any-append}
use Rattle.coda_cml.proofs.runs.ThawedFold.{mentions_in_added}
use Rattle.coda_plain.specs.Deeds.{Operated, Froze, Settled as SettledDeed, Gaveup}
use Rattle.coda_record.specs.declared.entry.ClientEntry.{ClientEntry}
use Rattle.coda_record.specs.declared.entry.ClientEntry.TheVariants as entry
use Rattle.coda_overlay.specs.Objects.{edited_at, all_edited_at}
use Rattle.coda_overlay.specs.Overlaying.{takes_out, EndsTakenOut, IsTailNew}
use Rattle.coda_overlay.proofs.Copies.{get-applied}
use Rattle.coda_overlay.proofs.Endings.{ends_behind, ends_before, ends_split, ends_take, ends_stay, add_quiet, takes_mentions, taken_undone}
use Rattle.coda_venus.specs.Accepting.{Sight, sight_of}
use Rattle.coda_venus.specs.History.{MayEnter}
use Rattle.coda_venus.specs.State.{ended_by, ClientVolume, ClientState, volume_after, client_after}
use Rattle.coda_venus.proofs.Accepted.{Relies, accepted_relies}
use Rattle.coda_venus.specs.Held.{parents_after, taken_out, stays_by}
use Rattle.coda_copies.proofs.Staying.{node_stays}
use Rattle.coda_copies.specs.Copies.{log_records, records_for, cached_node, MentionsApart, KeepsMentioned, AreMentionedKept}
use Rattle.coda_copies.specs.Copies.{MentionedObjectsAreKept}
use Rattle.coda_copies.proofs.Entries.{at_volume, none_frozen}

-- ---- what an operation leaves cached

kept_by : (b : Bool) (g : Node → Node) (o : Option Node) → is_some o ≡ true
    → is_some (cond b (option_map g o) o) ≡ true
kept_by true g (Some node) h = refl
kept_by true g None h = h
kept_by false g o h = h

put_by : (b : Bool) (node : Node) (o : Option Node) → is_some o ≡ true → is_some (cond b (Some node) o) ≡ true
put_by true node o h = refl
put_by false node o h = h

-- whether an edit takes the object out
abbrev is_gone : Fid → Edit → Bool
is_gone f (Put fid node) = false
is_gone f (Bind dir name fid) = false
is_gone f (TakeOut fid) = same_fid f fid
is_gone f (Unbind dir name) = false
is_gone f (Write fid patch sid) = false

edit_keeps : (f : Fid) (e : Edit) (o : Option Node) → is_gone f e ≡ false → is_some o ≡ true
    → is_some (edited_at f e o) ≡ true
edit_keeps f (Put fid node) o g h = put_by (same_fid f fid) node o h
edit_keeps f (Bind dir name fid) o g h = kept_by (same_fid f dir) _ o h
edit_keeps f (TakeOut fid) o g h = subst (λ b. is_some (cond b None o) ≡ true) (sym g) h
edit_keeps f (Unbind dir name) o g h = kept_by (same_fid f dir) _ o h
edit_keeps f (Write fid patch sid) o g h = kept_by (same_fid f fid) _ o h

abbrev none_gone : Fid → List Edit → Type 0
none_gone f [] = Unit {0}
none_gone f (e ∷ es) = (is_gone f e ≡ false) × none_gone f es

edits_keep : (f : Fid) (es : List Edit) (o : Option Node) → none_gone f es → is_some o ≡ true
    → is_some (all_edited_at f es o) ≡ true
edits_keep f [] o g h = h
edits_keep f (e ∷ es) o g h = edits_keep f es (edited_at f e o) g.1 (edit_keeps f e o g.0 h)

other_way : (a b : Fid) → same_fid a b ≡ false → same_fid b a ≡ false
other_way a b e = false_from_ne_true _ (λ h. false≢true (sym e ∙ fid_same a b (sym (fid_true b a h))))

-- an operation that doesn't take the object out has no edit that does
spared_edits : (f : Fid) (time : ℕ) (sid : Sid) (o : Op) → takes_out f o ≡ false → none_gone f (effects time sid o)
spared_edits f time sid (op.Create dir name fid mode owner) h = (refl, (refl, tt))
spared_edits f time sid (op.Mkdir dir name fid mode owner) h = (refl, (refl, tt))
spared_edits f time sid (op.Symlink dir name fid target mode owner) h = (refl, (refl, tt))
spared_edits f time sid (op.Store fid pre content) h = (refl, tt)
spared_edits f time sid (op.Setattr fid pre attrs) h = (refl, tt)
spared_edits f time sid (op.Remove dir name fid pre) h = (refl, (other_way fid f h, tt))
spared_edits f time sid (op.Rmdir dir name fid pre) h = (refl, (other_way fid f h, tt))
spared_edits f time sid (op.Rename from_dir from to_dir to fid None) h = (refl, (refl, tt))
spared_edits f time sid (op.Rename from_dir from to_dir to fid (Some v)) h = (other_way v.fid f h, (refl, (refl, tt)))

stays_cached : (f : Fid) (client : ℕ) (rec : Record) (m : Nodes) → takes_out f rec.op ≡ false → has m f ≡ true
    → has (applied m client rec) f ≡ true
stays_cached f client rec m spared there = ap is_some (get-applied f client rec m)
    ∙ edits_keep f (effects rec.time (sid_of client rec) rec.op) (map.get m f) (spared_edits f rec.time (sid_of client rec) rec.op spared) there

-- what an operation creates is cached behind it
put_here : (f fid : Fid) (node : Node) (o : Option Node) → same_fid fid f ≡ true → is_some (edited_at f (Put fid node) o) ≡ true
put_here f fid node o e = ap (λ b. is_some (cond b (Some node) o)) (fid_same f fid (sym (fid_true fid f e)))

made_there : (f dir : Fid) (name : Name) (fid : Fid) (node : Node) (o : Option Node) → same_fid fid f ≡ true
    → is_some (edited_at f (Put fid node) (edited_at f (Bind dir name fid) o)) ≡ true
made_there f dir name fid node o e = put_here f fid node (edited_at f (Bind dir name fid) o) e

made_edits : (f : Fid) (time : ℕ) (sid : Sid) (op : Op) (o : Option Node) → creates f op ≡ true
    → is_some (all_edited_at f (effects time sid op) o) ≡ true
made_edits f time sid (op.Create dir name fid mode owner) o e = made_there f dir name fid (empty_file mode owner time sid) o e
made_edits f time sid (op.Mkdir dir name fid mode owner) o e = made_there f dir name fid (empty_dir mode owner time sid) o e
made_edits f time sid (op.Symlink dir name fid target mode owner) o e = made_there f dir name fid (new_link target mode owner time sid) o e
made_edits f time sid (op.Store fid pre content) o e = absurd (false≢true e)
made_edits f time sid (op.Setattr fid pre attrs) o e = absurd (false≢true e)
made_edits f time sid (op.Remove dir name fid pre) o e = absurd (false≢true e)
made_edits f time sid (op.Rmdir dir name fid pre) o e = absurd (false≢true e)
made_edits f time sid (op.Rename from_dir from to_dir to fid over) o e = absurd (false≢true e)

made_cached : (f : Fid) (client : ℕ) (rec : Record) (m : Nodes) → creates f rec.op ≡ true
    → has (applied m client rec) f ≡ true
made_cached f client rec m e = ap is_some (get-applied f client rec m)
    ∙ made_edits f rec.time (sid_of client rec) rec.op (map.get m f) e

-- ---- what an operation mentions

dir_has : (o : Option Node) → IsDirNode o → is_some o ≡ true
dir_has None d = absurd d
dir_has (Some node) d = refl

at_same : (P : Fid → Type 0) (a f : Fid) → P a → same_fid a f ≡ true → P f
at_same P a f p e = subst P (fid_true a f e) p

two : (f dir fid : Fid) (P : Type 0) → (same_fid dir f || (same_fid fid f || false)) ≡ true → (same_fid dir f ≡ true → P)
    → (same_fid fid f ≡ true → P) → P
two f dir fid P m first second = ⊎_elim first (λ (n : (same_fid fid f || false) ≡ true). ⊎_elim second (λ (z : false ≡ true). absurd (false≢true z)) (or_cases (same_fid fid f) false n))
    (or_cases (same_fid dir f) (same_fid fid f || false) m)

-- an operation that is accepted mentions what it creates, or what is cached
mentioned_there : (s : Sight) (volume : ℕ) (o : Op) (f : Fid) → Relies s volume o → mentioning f o ≡ true
    → (creates f o ≡ true) ⊎ (has s.held.nodes f ≡ true)
mentioned_there s volume (op.Create dir name fid mode owner) f r m = two f dir fid _ m (λ e. inr (at_same (λ x. has s.held.nodes x ≡ true) dir f (dir_has _ r.place.dir_there) e)) (λ e. inl e)
mentioned_there s volume (op.Mkdir dir name fid mode owner) f r m = two f dir fid _ m (λ e. inr (at_same (λ x. has s.held.nodes x ≡ true) dir f (dir_has _ r.place.dir_there) e)) (λ e. inl e)
mentioned_there s volume (op.Symlink dir name fid target mode owner) f r m = two f dir fid _ m (λ e. inr (at_same (λ x. has s.held.nodes x ≡ true) dir f (dir_has _ r.place.dir_there) e)) (λ e. inl e)
mentioned_there s volume (op.Store fid pre content) f r m = inr (at_same (λ x. has s.held.nodes x ≡ true) fid f r (⊎_elim (λ (e : same_fid fid f ≡ true). e) (λ (z : false ≡ true). absurd (false≢true z)) (or_cases (same_fid fid f) false m)))
mentioned_there s volume (op.Setattr fid pre attrs) f r m = inr (at_same (λ x. has s.held.nodes x ≡ true) fid f r (⊎_elim (λ (e : same_fid fid f ≡ true). e) (λ (z : false ≡ true). absurd (false≢true z)) (or_cases (same_fid fid f) false m)))
mentioned_there s volume (op.Remove dir name fid pre) f r m = two f dir fid _ m (λ e. inr (at_same (λ x. has s.held.nodes x ≡ true) dir f (dir_has _ r.0.dir_there) e)) (λ e. inr (at_same (λ x. has s.held.nodes x ≡ true) fid f r.1 e))
mentioned_there s volume (op.Rmdir dir name fid pre) f r m = two f dir fid _ m (λ e. inr (at_same (λ x. has s.held.nodes x ≡ true) dir f (dir_has _ r.0.dir_there) e)) (λ e. inr (at_same (λ x. has s.held.nodes x ≡ true) fid f r.1 e))
mentioned_there s volume (op.Rename from_dir from to_dir to fid None) f r m = ⊎_elim
    (λ (e : same_fid from_dir f ≡ true). inr (at_same (λ x. has s.held.nodes x ≡ true) from_dir f (dir_has _ r.places.from_there) e))
    (λ (n : (same_fid to_dir f || (same_fid fid f || false)) ≡ true). two f to_dir fid _ n (λ e. inr (at_same (λ x. has s.held.nodes x ≡ true) to_dir f (dir_has _ r.places.to_there) e)) (λ e. inr (at_same (λ x. has s.held.nodes x ≡ true) fid f r.there e)))
    (or_cases (same_fid from_dir f) _ m)
mentioned_there s volume (op.Rename from_dir from to_dir to fid (Some v)) f r m = ⊎_elim
    (λ (e : same_fid from_dir f ≡ true). inr (at_same (λ x. has s.held.nodes x ≡ true) from_dir f (dir_has _ r.places.from_there) e))
    (λ (n : (same_fid to_dir f || (same_fid fid f || (same_fid v.fid f || false))) ≡ true). ⊎_elim
    (λ (e : same_fid to_dir f ≡ true). inr (at_same (λ x. has s.held.nodes x ≡ true) to_dir f (dir_has _ r.places.to_there) e))
    (λ (k : (same_fid fid f || (same_fid v.fid f || false)) ≡ true). two f fid v.fid _ k (λ e. inr (at_same (λ x. has s.held.nodes x ≡ true) fid f r.there e)) (λ e. inr (at_same (λ x. has s.held.nodes x ≡ true) v.fid f r.replaced.0 e)))
    (or_cases (same_fid to_dir f) _ n))
    (or_cases (same_fid from_dir f) _ m)

-- ---- by lists of records

abbrev IsKeptBy : Fid → List Record → List Record → Option Node → Type 0
IsKeptBy fid chunk tail now = any_record (mentioning fid) (chunk ++ tail) ≡ true
    → IsSome now ⊎ EndsTakenOut fid (chunk ++ tail)

-- an operation more behind a chunk
operated_kept : (f : Fid) (chunk tail : List Record) (rec : Record) (before after : Option Node) → IsTailNew chunk tail
    → (takes_out f rec.op ≡ false → IsSome before → IsSome after)
    → (takes_out f rec.op ≡ false → mentioning f rec.op ≡ true → IsSome after)
    → IsKeptBy f chunk tail before → IsKeptBy f chunk (add tail rec) after
operated_kept f chunk tail rec before after new stays seen kept m = elim (cases_Bool (takes_out f rec.op)) [
  | inl takes ↦ elim (cases_Bool (any_record (mentioning f) (add tail rec))) [
    | inl is ↦ inr (ends_behind f chunk (add tail rec) ((ends_stay).taken f tail rec takes is))
    | inr quiet ↦ absurd (undone takes quiet)
  ]
  | inr spared ↦ elim (cases_Bool (mentioning f rec.op)) [
    | inl is ↦ inl (seen spared is)
    | inr quiet ↦ elim (kept (mentioned_before quiet)) [
      | inl there ↦ inl (stays spared there)
      | inr ends ↦ elim (ends_split f chunk tail ends) [
        | inl later ↦ inr (ends_behind f chunk (add tail rec) ((ends_stay).stays f tail rec later quiet))
        | inr here ↦ inr (ends_before f chunk (add tail rec) here.0 (add_quiet f tail rec here.1 quiet))
      ]
    ]
  ]
]
  where
    -- the chunk mentions nothing that the tail creates, so an object that goes with its creation isn't mentioned
    undone : takes_out f rec.op ≡ true → any_record (mentioning f) (add tail rec) ≡ false → ⊥
    undone takes quiet = false≢true (sym (any-append (mentioning f) chunk (add tail rec) ∙ ap (λ b. b || any_record (mentioning f) (add tail rec)) in_chunk ∙ quiet) ∙ m)
      where
        in_chunk : any_record (mentioning f) chunk ≡ false
        in_chunk = new f (taken_undone f tail rec takes quiet)

    mentioned_before : mentioning f rec.op ≡ false → any_record (mentioning f) (chunk ++ tail) ≡ true
    mentioned_before quiet = any-append (mentioning f) chunk tail ∙ ⊎_elim
        (λ (a : any_record (mentioning f) chunk ≡ true). or_left (any_record (mentioning f) chunk) (any_record (mentioning f) tail) a)
        (λ (b : any_record (mentioning f) (add tail rec) ≡ true). or_right (any_record (mentioning f) chunk) (any_record (mentioning f) tail) (elim (cases_Bool (any_record (mentioning f) tail)) [
          | inl is ↦ is
          | inr none ↦ absurd (false≢true (sym (add_quiet f tail rec none quiet) ∙ b))
        ]))
        (or_cases (any_record (mentioning f) chunk) (any_record (mentioning f) (add tail rec)) (sym (any-append (mentioning f) chunk (add tail rec)) ∙ m))

-- a suffix of what is kept
suffix_kept : (f : Fid) (chunk tail : List Record) (now : Option Node) → IsKeptBy f chunk tail now → IsKeptBy f [] tail now
suffix_kept f chunk tail now kept m = elim (kept (any-append (mentioning f) chunk tail ∙ or_right (any_record (mentioning f) chunk) (any_record (mentioning f) tail) m)) [
  | inl there ↦ inl there
  | inr ends ↦ elim (ends_split f chunk tail ends) [
    | inl later ↦ inr later
    | inr here ↦ absurd (false≢true (sym here.1 ∙ m))
  ]
]

thawed_kept : (f : Fid) (chunk tail : List Record) (now : Option Node) → IsKeptBy f chunk tail now → IsKeptBy f [] (added chunk tail) now
thawed_kept f chunk tail now kept m = elim (kept seen) [
  | inl there ↦ inl there
  | inr ends ↦ inr ((ends_stay).thawed f chunk tail ends m)
]
  where
    seen : any_record (mentioning f) (chunk ++ tail) ≡ true
    seen = elim (cases_Bool (any_record (mentioning f) (chunk ++ tail))) [
      | inl is ↦ is
      | inr none ↦ (let p = or_parts _ _ (sym (any-append (mentioning f) chunk tail) ∙ none) in absurd (false≢true (sym (mentions_in_added f chunk tail p.0 p.1) ∙ m)))
    ]

-- ---- each entry

abbrev OfVolume : Fid → ClientVolume → Option Node → Type 0
OfVolume f v now = IsKeptBy f v.log.chunk v.log.records now

settled_kept : (f : Fid) (v : ClientVolume) (number : ℕ) (verdict : Verdict) (now : Option Node) → OfVolume f v now
    → OfVolume f (volume_after v (SettledDeed number verdict)) now
settled_kept f v number Applied now kept = suffix_kept f v.log.chunk v.log.records now kept
settled_kept f v number (Conflict refused why) now kept = thawed_kept f v.log.chunk v.log.records now kept

frozen_kept : (f : Fid) (v : ClientVolume) (number home last : ℕ) (now : Option Node) → v.log.chunk ≡ []
    → OfVolume f v now → OfVolume f (volume_after v (Froze number home last)) now
frozen_kept f v number home last now empty kept = subst (λ l. any_record (mentioning f) l ≡ true → IsSome now ⊎ EndsTakenOut f l) same kept
  where
    same : v.log.chunk ++ v.log.records ≡ take (records_in (ended_by last v.log.segments) v.log) v.log.records ++ drop (records_in (ended_by last v.log.segments) v.log) v.log.records
    same = ap (λ l. l ++ v.log.records) empty ∙ sym (take-append-drop (records_in (ended_by last v.log.segments) v.log) v.log.records)

given_up_kept : (f : Fid) (v : ClientVolume) (now : Option Node) → v.log.chunk ≡ [] → OfVolume f (volume_after v Gaveup) now
given_up_kept f v now empty m = absurd (false≢true (subst (λ l. any_record (mentioning f) (l ++ []) ≡ true) empty m))

module _ (c : ClientState) (volume : ℕ) (rec : Record) (may : MayEnter c (entry.Op volume rec)) (apart : MentionsApart c volume rec) (kept : AreMentionedKept c) (f : Fid) where
  abbrev after_it : ClientState
  after_it = client_after c (entry.Op volume rec)

  relied : Relies (sight_of c volume) volume rec.op
  relied = accepted_relies (sight_of c volume) volume may.ask rec.op may.accepted

  node_is : stays_by c.held.parents (taken_out rec.op) f ≡ true → cached_node after_it f ≡ map.get (applied c.held.nodes c.number rec) f
  node_is stays = node_stays (record { nodes = applied c.held.nodes c.number rec; parents = parents_after c.held.parents rec.op }) c.held.parents (taken_out rec.op) f stays

  module _ (still_there : takes_out f rec.op ≡ false → stays_by c.held.parents (taken_out rec.op) f ≡ true) where
    still : takes_out f rec.op ≡ false → IsSome (cached_node c f) → IsSome (cached_node after_it f)
    still spared there = ap is_some (node_is (still_there spared)) ∙ stays_cached f c.number rec c.held.nodes spared there

    seen_now : takes_out f rec.op ≡ false → mentioning f rec.op ≡ true → IsSome (cached_node after_it f)
    seen_now spared m = ap is_some (node_is (still_there spared)) ∙ ⊎_elim
        (λ (e : creates f rec.op ≡ true). made_cached f c.number rec c.held.nodes e)
        (λ (h : has c.held.nodes f ≡ true). stays_cached f c.number rec c.held.nodes spared h)
        (mentioned_there (sight_of c volume) volume rec.op f relied m)

    operated_still : OfVolume f (after_it.volumes f.volume) (cached_node after_it f)
    operated_still = at_volume (λ v. OfVolume f v (cached_node after_it f)) c.volumes volume (volume_after (c.volumes volume) (Operated rec)) f.volume
        (λ same. operated_kept f (c.volumes volume).log.chunk (c.volumes volume).log.records rec (cached_node c f) (cached_node after_it f) apart.behind still seen_now
        (subst (λ w. OfVolume f (c.volumes w) (cached_node c f)) same (kept f)))
        (λ off m. elim (kept f m) [
          | inl there ↦ inl (still (false_from_ne_true _ (λ t. false≢true (sym off ∙ eq-eqb f.volume volume (apart.within f (takes_mentions f rec.op t))))) there)
          | inr ends ↦ inr ends
        ])

  -- what goes along isn't mentioned
  goes_unmentioned : stays_by c.held.parents (taken_out rec.op) f ≡ false → takes_out f rec.op ≡ false → OfVolume f (after_it.volumes f.volume) (cached_node after_it f)
  goes_unmentioned goes spared =
      let quiet = apart.along f goes spared in
      at_volume (λ v. OfVolume f v (cached_node after_it f)) c.volumes volume (volume_after (c.volumes volume) (Operated rec)) f.volume
      (λ same m.
      let before = or_parts _ _ (sym (any-append (mentioning f) (c.volumes volume).log.chunk (c.volumes volume).log.records) ∙ subst (λ w. any_record (mentioning f) (log_records (c.volumes w)) ≡ false) same quiet.1) in
      absurd (false≢true (sym (any-append (mentioning f) (c.volumes volume).log.chunk (add (c.volumes volume).log.records rec) ∙ ap (λ b. b || any_record (mentioning f) (add (c.volumes volume).log.records rec)) before.0
      ∙ add_quiet f (c.volumes volume).log.records rec before.1 quiet.0) ∙ m)))
      (λ off m. absurd (false≢true (sym quiet.1 ∙ m)))

  operated : OfVolume f (after_it.volumes f.volume) (cached_node after_it f)
  operated = elim (cases_Bool (takes_out f rec.op)) [
    | inl takes ↦ operated_still (λ spared. absurd (false≢true (sym spared ∙ takes)))
    | inr spared ↦ elim (cases_Bool (stays_by c.held.parents (taken_out rec.op) f)) [
      | inl stays ↦ operated_still (λ _. stays)
      | inr goes ↦ goes_unmentioned goes spared
    ]
  ]

pub mentioned_are_kept : MentionedObjectsAreKept
mentioned_are_kept = record { first = λ number blocks fid m. absurd (false≢true m); entered = entered; taken = taken }
  where
    entered : (c : ClientState) (e : ClientEntry) → MayEnter c e → KeepsMentioned c e → AreMentionedKept c → AreMentionedKept (client_after c e)
    entered c (entry.Op volume rec) may owed kept f = operated c volume rec may owed kept f
    entered c (entry.Freeze volume number home last) may owed kept f = at_volume (λ v. OfVolume f v (cached_node c f)) c.volumes volume (volume_after (c.volumes volume) (Froze number home last)) f.volume
        (λ same. frozen_kept f (c.volumes volume) number home last (cached_node c f) (owed (none_frozen (c.volumes volume).log.frozen may.now may.window (c.volumes volume).log.segments may.goes))
        (subst (λ w. OfVolume f (c.volumes w) (cached_node c f)) same (kept f)))
        (λ off. kept f)
    entered c (entry.Settled volume number verdict) may owed kept f = at_volume (λ v. OfVolume f v (cached_node c f)) c.volumes volume (volume_after (c.volumes volume) (SettledDeed number verdict)) f.volume
        (λ same. settled_kept f (c.volumes volume) number verdict (cached_node c f) (subst (λ w. OfVolume f (c.volumes w) (cached_node c f)) same (kept f)))
        (λ off. kept f)
    entered c (entry.Giveup volume) may owed kept f = at_volume (λ v. OfVolume f v (cached_node c f)) c.volumes volume (volume_after (c.volumes volume) Gaveup) f.volume
        (λ same. given_up_kept f (c.volumes volume) (cached_node c f) (owed may.0))
        (λ off. kept f)
    entered c (entry.Fetched at parent node) may owed kept f = λ m. elim (fid_cases f at) [
      | inl same ↦ inl (subst (λ o. IsSome o) (sym (ap (map.get (map.insert c.held.nodes at node)) same ∙ get_here fids_total c.held.nodes at node)) refl)
      | inr off ↦ subst (λ o. IsSome o ⊎ EndsTakenOut f (records_for c f)) (sym (get_else fids_total exact_fids c.held.nodes at node f off)) (kept f m)
    ]
    entered c (entry.Dropped at) may owed kept f = λ m. elim (fid_cases f at) [
      | inl same ↦ absurd (may.1 (subst (λ x. (any_record (mentioning x) (c.volumes x.volume).log.chunk || any_record (mentioning x) (c.volumes x.volume).log.records) ≡ true) same (sym (any-append (mentioning f) (c.volumes f.volume).log.chunk (c.volumes f.volume).log.records) ∙ m)))
      | inr off ↦ subst (λ o. IsSome o ⊎ EndsTakenOut f (records_for c f)) (sym (gone_else fids_total exact_fids c.held.nodes at f off)) (kept f m)
    ]
    entered c (entry.Hoard change) may owed kept f = absurd may
    entered c (entry.Snapshot snapshot) may owed kept f = absurd may

    taken : (c : ClientState) (fid : Fid) → AreMentionedKept c → cached_node c fid ≡ None → any_record (mentioning fid) (records_for c fid) ≡ true → any_record (takes_out fid) (records_for c fid) ≡ true
    taken c fid kept none m = elim (kept fid m) [
      | inl there ↦ absurd (false≢true (subst IsSome none there))
      | inr ends ↦ ends_take fid (records_for c fid) ends
    ]
