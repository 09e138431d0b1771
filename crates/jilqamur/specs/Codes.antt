-- What calls answer, as numbers.
use Rattle.std.specs.Prelude.{ℕ}

abbrev pub ok : ℕ
ok = 0

abbrev pub memory : ℕ
memory = 1

abbrev pub in_use : ℕ
in_use = 2

abbrev pub closed : ℕ
closed = 3

abbrev pub unreadable : ℕ
unreadable = 4

abbrev pub damaged : ℕ
damaged = 5

abbrev pub refused : ℕ
refused = 6

abbrev pub unwritable : ℕ
unwritable = 7

abbrev pub too_small : ℕ
too_small = 8

abbrev pub not_text : ℕ
not_text = 9

abbrev pub out_of_range : ℕ
out_of_range = 10

abbrev pub not_made : ℕ
not_made = 11

abbrev pub nothing : ℕ
nothing = 12

abbrev pub foreign : ℕ
foreign = 13

abbrev pub no_stream : ℕ
no_stream = 14

abbrev pub row_not_plain : ℕ
row_not_plain = 15

abbrev pub types_not_distinct : ℕ
types_not_distinct = 16

abbrev pub not_writable : ℕ
not_writable = 17

abbrev pub text_unreadable : ℕ
text_unreadable = 18

abbrev pub out_of_turn : ℕ
out_of_turn = 19

abbrev pub not_media : ℕ
not_media = 20

abbrev pub not_corresponding : ℕ
not_corresponding = 21

abbrev pub round : ℕ
round = 22

abbrev pub no_common_row : ℕ
no_common_row = 23

abbrev pub no_section : ℕ
no_section = 24

abbrev pub row_not_agreed : ℕ
row_not_agreed = 25

abbrev pub row_differs : ℕ
row_differs = 26

abbrev pub wrong_direction : ℕ
wrong_direction = 27

abbrev pub ssrc_not_named : ℕ
ssrc_not_named = 28

abbrev pub already_open : ℕ
already_open = 29

abbrev pub stream_failed : ℕ
stream_failed = 30

abbrev pub time_too_large : ℕ
time_too_large = 31

abbrev pub limit_too_small : ℕ
limit_too_small = 32

abbrev pub payload : ℕ
payload = 33

abbrev pub packet_too_short : ℕ
packet_too_short = 34

abbrev pub sample_too_large : ℕ
sample_too_large = 35

abbrev pub too_many_references : ℕ
too_many_references = 36

abbrev pub h265_corrupted : ℕ
h265_corrupted = 37

abbrev pub h266_corrupted : ℕ
h266_corrupted = 38

abbrev pub aggregate_cut_short : ℕ
aggregate_cut_short = 39

abbrev pub unit_type_not_handled : ℕ
unit_type_not_handled = 40

abbrev pub vp8_corrupted : ℕ
vp8_corrupted = 41

abbrev pub vp9_corrupted : ℕ
vp9_corrupted = 42

abbrev pub av1_corrupted : ℕ
av1_corrupted = 43

abbrev pub red_corrupted : ℕ
red_corrupted = 44

abbrev pub event_invalid : ℕ
event_invalid = 45

abbrev pub amr_wb_corrupted : ℕ
amr_wb_corrupted = 46

abbrev pub no_repair : ℕ
no_repair = 47

abbrev pub not_own : ℕ
not_own = 48

abbrev pub rest_unread : ℕ
rest_unread = 49

abbrev pub mid_not_kept : ℕ
mid_not_kept = 50

abbrev pub mid_twice : ℕ
mid_twice = 51

abbrev pub section_rejected : ℕ
section_rejected = 52

abbrev pub several_bundles : ℕ
several_bundles = 53

abbrev pub outside_bundle : ℕ
outside_bundle = 54

abbrev pub nothing_left : ℕ
nothing_left = 55

abbrev pub keys_alone : ℕ
keys_alone = 56

abbrev pub ufrag_not_fit : ℕ
ufrag_not_fit = 57

abbrev pub password_not_fit : ℕ
password_not_fit = 58

abbrev pub setup_not_fit : ℕ
setup_not_fit = 59

abbrev pub adds_redundancy : ℕ
adds_redundancy = 60

abbrev pub number_too_large : ℕ
number_too_large = 61

abbrev pub no_payload : ℕ
no_payload = 62
