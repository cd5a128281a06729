-- What the mounting of a disk makes of what it stands for.
use Rattle.std.proofs.Common.{◌≡◌, ◌⊎◌, inl, inr, ⊎_elim, ℕ, ◌+◌, ◌-◌, ◌<◌, List, [], ◌∷◌, ◌++◌, length, map, get_or, take, drop, refl, sym, ◌∙◌, ap, subst, arith, length-append}
use Rattle.std.proofs.lemmas.List.{map-append, get_or-take, get_or-drop, take-take}
use Rattle.std.specs.Prelude.{Option, Some, None, IfSome, option_map}
use Rattle.coda_disk.specs.Told.{Told}
use Rattle.coda_journal.specs.Header.{marks, IsHeader}
use Rattle.coda_journal.specs.Heading.{DiffersFirst}
use Rattle.coda_journal.specs.Image.{IsMade, IsUnmade, HasHeader, ReadsAs, OtherHeader, IsForeign}
use Rattle.coda_journal.specs.Laws.{HasWords}
use Rattle.coda_journal.specs.Mount.{NotMounted}
use Rattle.coda_journal.specs.Open.{MayBe}
use Rattle.coda_journal.specs.declared.header.Header.{Header}
use Rattle.coda_journal.specs.declared.mounting.MountFault.TheVariants.{DiskFault}
use Rattle.coda_journal.proofs.Fields.{headers_are_told_apart}
use Rattle.coda_journal.proofs.Images.{length-marks, made_made, as_once}
use Rattle.coda_actors.specs.Form.{Form, payloads_of, IsAsked, ReadsAsHistory, IsOwnDisk, WhyForeign}
use Rattle.coda_actors.specs.Plain.{PlainDisk, Joins, Tries, HasOther, MayHave}
use Rattle.coda_actors.specs.Fits.{IsLawful, StandsFor, Echoes}

-- a disk that was read under this header, with no append that failed
abbrev pub read_as : {A D : Type 0} → (form : Form A D) → Header → List form.Entry → PlainDisk form.Entry
read_as form header history = record { header = Some header; history = history; failed = None }

-- the histories of a kind of actors
pub record AreHistories {A D : Type 0} (form : Form A D) : Type 0 where
  pub same : (header : Header) (a b : List form.Entry) → form.IsHistory header a → form.IsHistory header b → payloads_of form a ≡ payloads_of form b → a ≡ b
  pub empty : (header : Header) → form.IsHistory header []
  pub grows : (header : Header) (history : List form.Entry) (entry : form.Entry) → form.IsHistory header history → form.MayFollow header history entry → form.IsHistory header (history ++ entry ∷ [])

-- an image that reads as a list and is made has the header
has_header : (header : Header) (payloads : List (List ℕ)) (image : List ℕ) → IsMade image → ReadsAs header payloads image → HasHeader header image
has_header header payloads image made (inl un) = absurd (made_made image made un.0)
has_header header payloads image made (inr r) = r.same

-- two headers of one image
one_header : (a b : Header) (image : List ℕ) → HasWords a → HasWords b → HasHeader a image → HasHeader b image → a ≡ b
one_header a b image x y is was = headers_are_told_apart a b x y (sym is ∙ was)

-- no entries, no history
none_read : {E : Type 0} (payload_of : E → List ℕ) (history : List E) → map payload_of history ≡ [] → history ≡ []
none_read payload_of [] is = refl
none_read payload_of (entry ∷ history) is = absurd (omega (arith, ap length is))

not_none : (payloads : List (List ℕ)) (payload : List ℕ) → payloads ++ payload ∷ [] ≡ [] → ⊥
not_none payloads payload is = omega (arith, ap length is, length-append payloads (payload ∷ []))

-- an image that isn't made reads as no entries
unmade_none : (header : Header) (payloads : List (List ℕ)) (image : List ℕ) → IsUnmade image → ReadsAs header payloads image → payloads ≡ []
unmade_none header payloads image un (inl u) = u.1
unmade_none header payloads image un (inr r) = absurd (made_made image r.made un)

may_none : (header : Header) (payloads : List (List ℕ)) (failed : Option (List ℕ)) (image : List ℕ) → IsUnmade image → MayBe header payloads failed image → payloads ≡ []
may_none header payloads None image un may = unmade_none header payloads image un may
may_none header payloads (Some entry) image un (inl may) = unmade_none header payloads image un may
may_none header payloads (Some entry) image un (inr may) = absurd (not_none payloads entry (unmade_none header (payloads ++ entry ∷ []) image un may))

may_header : (header : Header) (payloads : List (List ℕ)) (failed : Option (List ℕ)) (image : List ℕ) → IsMade image → MayBe header payloads failed image → HasHeader header image
may_header header payloads None image made may = has_header header payloads image made may
may_header header payloads (Some entry) image made (inl may) = has_header header payloads image made may
may_header header payloads (Some entry) image made (inr may) = has_header header (payloads ++ entry ∷ []) image made may

module _ {A D : Type 0} (form : Form A D) (are : AreHistories form) where
  -- ---- the image that is mounted

  -- where the image isn't made there are no entries
  have_none : (given : Option Header) (history : List form.Entry) (failed : Option form.Entry) (image : List ℕ) → IsLawful form given history failed → IsUnmade image → MayHave form given history failed image → history ≡ []
  have_none None history failed image lawful un may = lawful.0
  have_none (Some header) history failed image lawful un may = none_read form.payload_of history (may_none header (payloads_of form history) (option_map form.payload_of failed) image un may)

  -- an image that the disk may have and that has a header has the one that it was given
  have_header : (given : Option Header) (history : List form.Entry) (failed : Option form.Entry) (image : List ℕ) (header : Header) → IsLawful form given history failed → HasWords header → IsMade image → HasHeader header image
      → MayHave form given history failed image → given ≡ Some header
  have_header None history failed image header lawful words made has may = absurd (made_made image made may)
  have_header (Some other) history failed image header lawful words made has may =
      ap Some (one_header other header image lawful.0.words words (may_header other (payloads_of form history) (option_map form.payload_of failed) image made may) has)

  payloads_push : (history : List form.Entry) (entry : form.Entry) → payloads_of form (history ++ entry ∷ []) ≡ payloads_of form history ++ form.payload_of entry ∷ []
  payloads_push history entry = map-append form.payload_of history (entry ∷ [])

  -- what an image reads as which the disk may have
  reads_one : (header : Header) (history : List form.Entry) (failed : Option form.Entry) (image : List ℕ) (found : List form.Entry) → IsLawful form (Some header) history failed → form.IsHistory header found
      → MayHave form (Some header) history failed image → ReadsAs header (payloads_of form found) image → (found ≡ history) ⊎ ((entry : form.Entry) × (failed ≡ Some entry) × (found ≡ history ++ entry ∷ []))
  reads_one header history None image found lawful is may reads = inl (are.same header found history is lawful.1 (as_once header image lawful.0.whole (payloads_of form found) (payloads_of form history) reads may))
  reads_one header history (Some entry) image found lawful is (inl may) reads = inl (are.same header found history is lawful.1 (as_once header image lawful.0.whole (payloads_of form found) (payloads_of form history) reads may))
  reads_one header history (Some entry) image found lawful is (inr may) reads =
      inr (
        entry,
        refl,
        are.same header found (history ++ entry ∷ []) is (are.grows header history entry lawful.1 lawful.2)
            (as_once header image lawful.0.whole (payloads_of form found) (payloads_of form history ++ form.payload_of entry ∷ []) reads may ∙ sym (payloads_push history entry)),
      )

  joins_given : (header : Header) (given : Option Header) (history : List form.Entry) (failed : Option form.Entry) (image : List ℕ) (found : List form.Entry) → given ≡ Some header → IsLawful form given history failed → form.IsHistory header found
      → MayHave form given history failed image → ReadsAs header (payloads_of form found) image → Joins header (record { header = given; history = history; failed = failed }) (read_as form header found)
  joins_given header given history failed image found is lawful law may reads = record {
    history = reads_one header history failed image found (subst (λ (o : Option Header). IsLawful form o history failed) is lawful) law (subst (λ (o : Option Header). MayHave form o history failed image) is may) reads;
    failed = refl;
    given = refl;
    was = inl is;
  }

  joins_none : (header : Header) (given : Option Header) (history : List form.Entry) (failed : Option form.Entry) (image : List ℕ) (found : List form.Entry) → IsLawful form given history failed → IsUnmade image → payloads_of form found ≡ []
      → MayHave form given history failed image → Joins header (record { header = given; history = history; failed = failed }) (read_as form header found)
  joins_none header given history failed image found lawful un none may =
      let was = have_none given history failed image lawful un may in
      let now = none_read form.payload_of found none in
      record { history = inl (now ∙ sym was); failed = refl; given = refl; was = inr (was, now) }

  -- the history that a mounting finds
  pub joins : (told : Told) (disk : PlainDisk form.Entry) (header : Header) (found : List form.Entry) → IsAsked form header → StandsFor form told disk → told.may_leave told.seen → form.IsHistory header found
      → ReadsAs header (payloads_of form found) told.seen → Joins header disk (read_as form header found)
  joins told disk header found asked stands seen law (inl un) = joins_none header disk.header disk.history disk.failed told.seen found stands.lawful un.0 un.1 (stands.each told.seen seen)
  joins told disk header found asked stands seen law (inr r) =
      let may = stands.each told.seen seen in
      let is = have_header disk.header disk.history disk.failed told.seen header stands.lawful asked.words r.made r.same may in
      joins_given header disk.header disk.history disk.failed told.seen found is stands.lawful law may (inr r)

  -- ---- a mounting that fails

  -- the disk as it was, or the one that was given this header
  pub tries : (t0 t1 : Told) (disk : PlainDisk form.Entry) (header : Header) → IsAsked form header → StandsFor form t0 disk → t0.may_leave t0.seen → NotMounted header t0 t1 DiskFault
      → (new : PlainDisk form.Entry) × Tries header disk new × StandsFor form t1 new
  tries t0 t1 disk header asked stands seen not = from not.now
    where
      from : ((c : List ℕ) → t1.may_leave c → t0.may_leave c) ⊎ (IsUnmade t0.seen × ((c : List ℕ) → t1.may_leave c → ReadsAs header [] c)) → (new : PlainDisk form.Entry) × Tries header disk new × StandsFor form t1 new
      from (inl same) = (disk, inl refl, record { honest = not.honest; lawful = stands.lawful; each = λ c now. stands.each c (same c now) })
      from (inr empty) = (
        read_as form header [],
        inr (have_none disk.header disk.history disk.failed t0.seen stands.lawful empty.0 (stands.each t0.seen seen), refl),
        record { honest = not.honest; lawful = (asked, are.empty header, tt); each = empty.1 },
      )

  echo_unmade : (header : Header) (left : List ℕ) (t0 : Told) (c : List ℕ) (history : List form.Entry) → IsHeader header → Echoes form header t0 (Some left) → t0.may_leave t0.seen → IsUnmade t0.seen → ReadsAs header [] c
      → ReadsAs header (payloads_of form history) c → ReadsAs header (payloads_of form history) left
  echo_unmade header left t0 c history ok echoes seen un none reads =
      let is = as_once header c ok [] (payloads_of form history) none reads in
      subst (λ (l : List (List ℕ)). ReadsAs header l left) is (echoes t0.seen [] seen (inl (un, refl)))

  pub echoes_on : (header : Header) (left : Option (List ℕ)) (t0 t1 : Told) → IsHeader header → Echoes form header t0 left → t0.may_leave t0.seen → NotMounted header t0 t1 DiskFault → Echoes form header t1 left
  echoes_on header None t0 t1 ok echoes seen not = tt
  echoes_on header (Some left) t0 t1 ok echoes seen not = λ c history now reads. ⊎_elim (λ same. echoes c history (same c now) reads) (λ empty. echo_unmade header left t0 c history ok echoes seen empty.0 (empty.1 c now) reads) not.now

  -- where a mounting succeeds, the image of the last crash reads so
  pub echo_read : (header : Header) (left : Option (List ℕ)) (told : Told) (history : List form.Entry) → Echoes form header told left → told.may_leave told.seen → ReadsAs header (payloads_of form history) told.seen → IfSome left (ReadsAs header (payloads_of form history))
  echo_read header None told history echoes seen reads = tt
  echo_read header (Some left) told history echoes seen reads = echoes told.seen history seen reads

  -- ---- a disk that is foreign

  -- a disk that was given this header is one of its own
  own_given : (told : Told) (header : Header) (history : List form.Entry) (failed : Option form.Entry) → IsLawful form (Some header) history failed → ((c : List ℕ) → told.may_leave c → MayHave form (Some header) history failed c) → IsOwnDisk form header told
  own_given told header history None lawful each c now = (history, (lawful.1, each c now))
  own_given told header history (Some entry) lawful each c now = from (each c now)
    where
      from : ReadsAs header (payloads_of form history) c ⊎ ReadsAs header (payloads_of form history ++ form.payload_of entry ∷ []) c → (h : List form.Entry) × ReadsAsHistory form header c h
      from (inl before) = (history, (lawful.1, before))
      from (inr after) = (history ++ entry ∷ [], (are.grows header history entry lawful.1 lawful.2, subst (λ (l : List (List ℕ)). ReadsAs header l c) (sym (payloads_push history entry)) after))

  pub own : (told : Told) (disk : PlainDisk form.Entry) (header : Header) → StandsFor form told disk → disk.header ≡ Some header → IsOwnDisk form header told
  own told disk header stands is =
      own_given told header disk.history disk.failed (subst (λ (o : Option Header). IsLawful form o disk.history disk.failed) is stands.lawful)
      (λ c now. subst (λ (o : Option Header). MayHave form o disk.history disk.failed c) is (stands.each c now))

  differs : (other header : Header) (image : List ℕ) (at : ℕ) → HasHeader other image → OtherHeader header image at → (place : ℕ) × (at ≡ 2 + place) × DiffersFirst (marks other) (marks header) place
  differs other header image at has o =
      let k = at - 2 in
      let lt : k < 62 = omega (arith, o.to, o.from) in
      let there : 2 + k ≡ at = omega (arith, o.from) in
      let middle : get_or (marks other) k 0 ≡ get_or image at 0 = ap (λ (l : List ℕ). get_or l k 0) (sym has) ∙ get_or-take 62 (drop 2 image) k 0 lt ∙ get_or-drop 2 image k 0 ∙ ap (λ (i : ℕ). get_or image i 0) there in (
        k,
        sym there,
        record {
          inside = omega (arith, lt, length-marks other);
          other = λ e. o.other (sym middle ∙ e);
          before = ap (take k) (sym has) ∙ take-take k 62 (drop 2 image) (omega (arith, lt)) ∙ o.before;
        },
      )

  other_given : (given : Option Header) (history : List form.Entry) (failed : Option form.Entry) (image : List ℕ) (header : Header) (at : ℕ) → MayHave form given history failed image → OtherHeader header image at → HasOther header given at
  other_given None history failed image header at may o = absurd (made_made image o.made may)
  other_given (Some other) history failed image header at may o = differs other header image at (may_header other (payloads_of form history) (option_map form.payload_of failed) image o.made may) o

  pub foreign : (t0 t1 : Told) (disk : PlainDisk form.Entry) (header : Header) (at : ℕ) → IsAsked form header → StandsFor form t0 disk → t0.may_leave t0.seen → (IsOwnDisk form header t0 → ⊥) → WhyForeign header t0 t1 at → HasOther header disk.header at
  foreign t0 t1 disk header at asked stands seen never why = from why.1
    where
      made : (image : List ℕ) → t0.may_leave image → IsMade image → HasHeader header image → ⊥
      made image now is has = never (own t0 disk header stands (have_header disk.header disk.history disk.failed image header stands.lawful asked.words is has (stands.each image now)))

      from : (IsForeign header t0.seen at ⊎ ((image : List ℕ) × t0.may_leave image × IsMade image × HasHeader header image)) → HasOther header disk.header at
      from (inl (inl o)) = other_given disk.header disk.history disk.failed t0.seen header at (stands.each t0.seen seen) o
      from (inl (inr b)) = absurd (made t0.seen seen b.made b.same)
      from (inr w) = absurd (made w.0 w.1 w.2 w.3)

-- a disk of which a crash leaves no other images stands as it stood
pub fewer : {A D : Type 0} (form : Form A D) (t0 t1 : Told) (disk : PlainDisk form.Entry) → StandsFor form t0 disk → t1.honest → ((c : List ℕ) → t1.may_leave c → t0.may_leave c) → StandsFor form t1 disk
fewer form t0 t1 disk stands honest same = record { honest = honest; lawful = stands.lawful; each = λ c now. stands.each c (same c now) }

pub echoes_fewer : {A D : Type 0} (form : Form A D) (header : Header) (left : Option (List ℕ)) (t0 t1 : Told) → Echoes form header t0 left → ((c : List ℕ) → t1.may_leave c → t0.may_leave c) → Echoes form header t1 left
echoes_fewer form header None t0 t1 echoes same = tt
echoes_fewer form header (Some left) t0 t1 echoes same = λ c history now reads. echoes c history (same c now) reads
