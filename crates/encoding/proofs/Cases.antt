-- A to L and the further cases are accepted as bodies, and D's body has the bytes that document 01 prints: by computation.
use mathlib.Core.Path.{refl}
use Rattle.machine.specs.Test.{◌and◌, every, none}
use Rattle.machine.specs.Cases.{cases, further, late_values, hit_cases, jumps, case_D}
use Rattle.record.specs.Refusal.{◌then◌, ◌unless◌}
use Rattle.record.specs.Layout.{fields_from, record_bytes}
use Rattle.record.specs.Rules.{breaks_rules, has_unknown, not_above, fields_of}
use Rattle.record.specs.Body.{breaks_at, unknown_at, not_above_at, length_refusal, record_refusal, unknown_refusal, hit_refusal, body_refusal, known_refusal, timed_refusal, settled_refusal}
use Rattle.encoding.specs.Encoding.{record_of, body_of}
use Rattle.encoding.specs.Cases.{known, refusal_of, cases_accepted}
use Rattle.encoding.specs.Claims.{CasesAccepted, OnlyLIsUnknown, EncodingOfD}

pub cases_accepted_lem : CasesAccepted
unfolding ◌and◌ every none cases further late_values hit_cases jumps ◌then◌ ◌unless◌ fields_from breaks_rules has_unknown not_above breaks_at unknown_at not_above_at record_of record_bytes fields_of body_of length_refusal record_refusal unknown_refusal hit_refusal body_refusal timed_refusal settled_refusal known refusal_of cases_accepted
cases_accepted_lem = tt

pub only_L_is_unknown : OnlyLIsUnknown
unfolding ◌and◌ every none cases ◌then◌ ◌unless◌ fields_from breaks_rules has_unknown breaks_at unknown_at record_of record_bytes fields_of body_of length_refusal record_refusal unknown_refusal body_refusal known_refusal
only_L_is_unknown = refl

pub encoding_of_D : EncodingOfD
unfolding case_D record_of record_bytes fields_of body_of
encoding_of_D = refl
