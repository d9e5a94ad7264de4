-- Document 01, "Report and runner": the record of 24 bytes and the call that it holds.
-- Assumes nothing.
use Rattle.std.specs.Prelude.{ℕ, zero, suc, ◌+◌, ◌*◌, Bool, false, cond, ◌&&◌, ◌||◌, List, [], ◌∷◌, eqb, ltb, length, get_or, Option, Some, None}
use Rattle.days.specs.Days.{between}
use Rattle.products.specs.declared.products.Product.{Product}
use Rattle.products.specs.declared.products.Product.TheVariants.{Annual, Month, Day}
use Rattle.history.specs.declared.changes.Change.{Change}
use Rattle.history.specs.declared.changes.Change.TheVariants.{OpenPoint, PlaceGuarantee, RequestCapacity, CedeCapacity, TurnYear}

-- "records of 24 bytes"
abbrev pub record_length : ℕ
record_length = 24

-- "little-endian": the number that some bytes write, the lowest first
abbrev pub little_endian : List ℕ → ℕ
little_endian [] = 0
little_endian (b ∷ bs) = b + 256 * little_endian bs

-- n bytes of a record, from byte i on, and the number that they write
abbrev pub bytes_from : List ℕ → ℕ → ℕ → List ℕ
bytes_from s i zero = []
bytes_from s i (suc n) = get_or s i 0 ∷ bytes_from s (i + 1) n

unfoldable pub number_at : List ℕ → ℕ → ℕ → ℕ
number_at s i n = little_endian (bytes_from s i n)

-- ---- the table of bytes
-- "byte 0 letter"
abbrev pub letter_of : List ℕ → ℕ
letter_of s = get_or s 0 0

-- "1 kind"
abbrev pub kind_of : List ℕ → ℕ
kind_of s = get_or s 1 0

-- "2 point"
abbrev pub point_of : List ℕ → ℕ
point_of s = get_or s 2 0

-- "3 user or giver"
abbrev pub user_of : List ℕ → ℕ
user_of s = get_or s 3 0

-- "4 receiver"
abbrev pub receiver_of : List ℕ → ℕ
receiver_of s = get_or s 4 0

-- "5 month"
abbrev pub month_of : List ℕ → ℕ
month_of s = get_or s 5 0

-- "6-7 gas-day"
abbrev pub day_of : List ℕ → ℕ
day_of s = number_at s 6 2

-- "8-9 arrival"
abbrev pub arrival_of : List ℕ → ℕ
arrival_of s = number_at s 8 2

-- "10-11 year"
abbrev pub year_of : List ℕ → ℕ
year_of s = number_at s 10 2

-- "12-15 rate"
abbrev pub rate_of : List ℕ → ℕ
rate_of s = number_at s 12 4

-- "16-23 amount, total or guarantee"
abbrev pub amount_of : List ℕ → ℕ
amount_of s = number_at s 16 8

-- ---- the calls
-- open. Which kinds a point has is asked by the call itself
abbrev pub opening_in : List ℕ → Change
opening_in s = OpenPoint (record { point = point_of s; kind = kind_of s; total = amount_of s; rate = rate_of s })

-- guarantee
abbrev pub guarantee_in : List ℕ → Change
guarantee_in s = PlaceGuarantee (record { user = user_of s; guarantee = amount_of s })

-- request
abbrev pub request_for : List ℕ → Product → Change
request_for s product =
    RequestCapacity (record { user = user_of s; point = point_of s; product = product; arrival = arrival_of s; amount = amount_of s })

-- "R: 1 annual, 2 month, 3 day"; "an R of another kind .. is no call"
unfoldable pub request_in : List ℕ → Option Change
request_in s =
    cond (eqb (kind_of s) 1) (Some (request_for s Annual))
    (cond (eqb (kind_of s) 2) (Some (request_for s (Month (month_of s))))
    (cond (eqb (kind_of s) 3) (Some (request_for s (Day (day_of s))))
    None))

-- cession
abbrev pub cession_in : List ℕ → Change
cession_in s =
    CedeCapacity (record { giver = user_of s; receiver = receiver_of s; point = point_of s; arrival = arrival_of s; amount = amount_of s })

-- turn
abbrev pub turn_in : List ℕ → Change
turn_in s = TurnYear (year_of s)

-- "P, G, R, C, Y in ASCII"
abbrev pub letter_p : ℕ
letter_p = 80

abbrev pub letter_g : ℕ
letter_g = 71

abbrev pub letter_r : ℕ
letter_r = 82

abbrev pub letter_c : ℕ
letter_c = 67

abbrev pub letter_y : ℕ
letter_y = 89

-- "letter (P, G, R, C, Y .., as open, guarantee, request, cession, turn)"; "An unknown letter .. is no call"
unfoldable pub call_in : List ℕ → Option Change
call_in s =
    cond (eqb (letter_of s) letter_p) (Some (opening_in s))
    (cond (eqb (letter_of s) letter_g) (Some (guarantee_in s))
    (cond (eqb (letter_of s) letter_r) (request_in s)
    (cond (eqb (letter_of s) letter_c) (Some (cession_in s))
    (cond (eqb (letter_of s) letter_y) (Some (turn_in s))
    None))))

-- the call that a record holds. "a short last record is no call"
abbrev pub decoded : List ℕ → Option Change
decoded s = cond (ltb (length s) record_length) None (call_in s)

-- ---- "fields a letter doesn't use are not read": the bytes that have a say in the call
abbrev pub request_uses : ℕ → ℕ → Bool
request_uses kind i =
    eqb i 1
    || (between 1 3 kind && (between 2 3 i || between 8 9 i || between 16 23 i))
    || (eqb kind 2 && eqb i 5)
    || (eqb kind 3 && between 6 7 i)

unfoldable pub letter_uses : ℕ → ℕ → ℕ → Bool
letter_uses letter kind i =
    cond (eqb letter letter_p) (between 1 2 i || between 12 23 i)
    (cond (eqb letter letter_g) (eqb i 3 || between 16 23 i)
    (cond (eqb letter letter_r) (request_uses kind i)
    (cond (eqb letter letter_c) (between 2 4 i || between 8 9 i || between 16 23 i)
    (cond (eqb letter letter_y) (between 10 11 i)
    false))))

abbrev pub is_read : List ℕ → ℕ → Bool
is_read s i = eqb i 0 || letter_uses (letter_of s) (kind_of s) i
