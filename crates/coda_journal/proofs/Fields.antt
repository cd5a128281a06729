-- Where the fields of a header stand in its bytes.
use Rattle.std.proofs.Common.{rules, ◌≡◌, ℕ, List, ◌∷◌, refl, sym, ◌∙◌, subst, arith, ◌<◌, ◌^◌, get_or}
use Rattle.std.proofs.lemmas.Nat.{from_be_bytes-to_be_bytes_4}
use Rattle.coda_journal.specs.Header.{marks}
use Rattle.coda_journal.specs.Laws.{IsWhose, Says, HeadersSayTheirFields, HeadersAreToldApart}
use Rattle.coda_journal.specs.declared.header.Header.{Header}
use Rattle.coda_journal.specs.declared.header.Kind.{Kind}
use Rattle.coda_journal.specs.declared.header.Kind.TheVariants.{Client, Replica}

says : (kind : Kind) (number server group area cache gate selector : ℕ) → number < 2 ^ 32 → area < 2 ^ 32 → cache < 2 ^ 32
    → Says (gate ∷ selector ∷ marks (record { kind = kind; number = number; server = server; group = group; area = area; cache = cache })) (record { kind = kind; number = number; server = server; group = group; area = area; cache = cache })
unfolding marks
says Client number server group area cache gate selector n a c =
    record { opened = refl; version = refl; whose = refl; number = from_be_bytes-to_be_bytes_4 number n; server = refl; group = refl; between = refl; area = from_be_bytes-to_be_bytes_4 area a; cache = from_be_bytes-to_be_bytes_4 cache c; behind = refl }
says Replica number server group area cache gate selector n a c =
    record { opened = refl; version = refl; whose = refl; number = from_be_bytes-to_be_bytes_4 number n; server = refl; group = refl; between = refl; area = from_be_bytes-to_be_bytes_4 area a; cache = from_be_bytes-to_be_bytes_4 cache c; behind = refl }

pub headers_say_their_fields : HeadersSayTheirFields
headers_say_their_fields h gate selector w = says h.kind h.number h.server h.group h.area h.cache gate selector w.number w.area w.cache

-- one byte is of one kind
one_kind : (a b : Kind) (byte : ℕ) → IsWhose a byte → IsWhose b byte → a ≡ b
one_kind Client Client byte o also = refl
one_kind Replica Replica byte o also = refl
one_kind Client Replica byte o also = absurd (omega (arith, o, also))
one_kind Replica Client byte o also = absurd (omega (arith, o, also))

said_once : (a b : Header) (bytes : List ℕ) → Says bytes a → Says bytes b → a ≡ b
said_once a b bytes s t = same (one_kind a.kind b.kind (get_or bytes 11 0) s.whose t.whose) (sym s.number ∙ t.number) (sym s.server ∙ t.server) (sym s.group ∙ t.group) (sym s.area ∙ t.area) (sym s.cache ∙ t.cache) where
  same : a.kind ≡ b.kind → a.number ≡ b.number → a.server ≡ b.server → a.group ≡ b.group → a.area ≡ b.area → a.cache ≡ b.cache → a ≡ b
  same k n s g r c = search rules

pub headers_are_told_apart : HeadersAreToldApart
headers_are_told_apart a b x y is = said_once a b (1 ∷ 0 ∷ marks a) (headers_say_their_fields a 1 0 x) (subst (λ bytes. Says (1 ∷ 0 ∷ bytes) b) (sym is) (headers_say_their_fields b 1 0 y))
