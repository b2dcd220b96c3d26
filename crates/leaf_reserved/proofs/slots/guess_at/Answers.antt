use Rattle.leaf_bytes.specs.Bytes.{bytes}
use Rattle.leaf_reserved.specs.Table.{reserved, operators, fixed}
use Rattle.leaf_reserved.specs.Slots.{slot_of, spot, guess}
use Rattle.leaf_reserved.proofs.Guesses.{guess-laws}
use Rattle.leaf_reserved.proofs.slots.guess_at.Goals as goal

pub returns-in-228 : goal.returns-in-228
unfolding guess spot slot_of fixed reserved operators bytes
returns-in-228 c = search guess-laws

pub returns-in-159 : goal.returns-in-159
unfolding guess spot slot_of fixed reserved operators bytes
returns-in-159 c = search guess-laws

pub returns-in-4 : goal.returns-in-4
unfolding guess spot slot_of fixed reserved operators bytes
returns-in-4 c = search guess-laws

pub returns-in-12 : goal.returns-in-12
unfolding guess spot slot_of fixed reserved operators bytes
returns-in-12 c = search guess-laws

pub returns-in-69 : goal.returns-in-69
unfolding guess spot slot_of fixed reserved operators bytes
returns-in-69 c = search guess-laws

pub returns-in-156 : goal.returns-in-156
unfolding guess spot slot_of fixed reserved operators bytes
returns-in-156 c = search guess-laws

pub returns-in-121 : goal.returns-in-121
unfolding guess spot slot_of fixed reserved operators bytes
returns-in-121 c = search guess-laws

pub returns-in-33 : goal.returns-in-33
unfolding guess spot slot_of fixed reserved operators bytes
returns-in-33 c = search guess-laws

pub returns-in-110 : goal.returns-in-110
unfolding guess spot slot_of fixed reserved operators bytes
returns-in-110 c = search guess-laws

pub returns-in-129 : goal.returns-in-129
unfolding guess spot slot_of fixed reserved operators bytes
returns-in-129 c = search guess-laws

pub returns-in-201 : goal.returns-in-201
unfolding guess spot slot_of fixed reserved operators bytes
returns-in-201 c = search guess-laws

pub returns-in-194 : goal.returns-in-194
unfolding guess spot slot_of fixed reserved operators bytes
returns-in-194 c = search guess-laws

pub returns-in-81 : goal.returns-in-81
unfolding guess spot slot_of fixed reserved operators bytes
returns-in-81 c = search guess-laws

pub returns-in-223 : goal.returns-in-223
unfolding guess spot slot_of fixed reserved operators bytes
returns-in-223 c = search guess-laws

pub returns-in-172 : goal.returns-in-172
unfolding guess spot slot_of fixed reserved operators bytes
returns-in-172 c = search guess-laws

pub returns-in-215 : goal.returns-in-215
unfolding guess spot slot_of fixed reserved operators bytes
returns-in-215 c = search guess-laws

pub returns-in-220 : goal.returns-in-220
unfolding guess spot slot_of fixed reserved operators bytes
returns-in-220 c = search guess-laws

pub returns-in-28 : goal.returns-in-28
unfolding guess spot slot_of fixed reserved operators bytes
returns-in-28 c = search guess-laws

pub returns-in-217 : goal.returns-in-217
unfolding guess spot slot_of fixed reserved operators bytes
returns-in-217 c = search guess-laws

pub returns-in-98 : goal.returns-in-98
unfolding guess spot slot_of fixed reserved operators bytes
returns-in-98 c = search guess-laws

pub returns-in-15 : goal.returns-in-15
unfolding guess spot slot_of fixed reserved operators bytes
returns-in-15 c = search guess-laws

pub returns-in-43 : goal.returns-in-43
unfolding guess spot slot_of fixed reserved operators bytes
returns-in-43 c = search guess-laws

pub returns-in-255 : goal.returns-in-255
unfolding guess spot slot_of fixed reserved operators bytes
returns-in-255 c = search guess-laws

pub returns-in-247 : goal.returns-in-247
unfolding guess spot slot_of fixed reserved operators bytes
returns-in-247 c = search guess-laws

pub returns-in-87 : goal.returns-in-87
unfolding guess spot slot_of fixed reserved operators bytes
returns-in-87 c = search guess-laws

pub returns-in-183 : goal.returns-in-183
unfolding guess spot slot_of fixed reserved operators bytes
returns-in-183 c = search guess-laws

pub returns-in-119 : goal.returns-in-119
unfolding guess spot slot_of fixed reserved operators bytes
returns-in-119 c = search guess-laws

pub returns-in-244 : goal.returns-in-244
unfolding guess spot slot_of fixed reserved operators bytes
returns-in-244 c = search guess-laws

pub returns-in-204 : goal.returns-in-204
unfolding guess spot slot_of fixed reserved operators bytes
returns-in-204 c = search guess-laws

pub returns-in-92 : goal.returns-in-92
unfolding guess spot slot_of fixed reserved operators bytes
returns-in-92 c = search guess-laws

pub returns-in-38 : goal.returns-in-38
unfolding guess spot slot_of fixed reserved operators bytes
returns-in-38 c = search guess-laws

pub returns-in-6 : goal.returns-in-6
unfolding guess spot slot_of fixed reserved operators bytes
returns-in-6 c = search guess-laws

pub returns-in-169 : goal.returns-in-169
unfolding guess spot slot_of fixed reserved operators bytes
returns-in-169 c = search guess-laws

pub returns-in-84 : goal.returns-in-84
unfolding guess spot slot_of fixed reserved operators bytes
returns-in-84 c = search guess-laws

pub returns-in-175 : goal.returns-in-175
unfolding guess spot slot_of fixed reserved operators bytes
returns-in-175 c = search guess-laws

pub returns-in-231 : goal.returns-in-231
unfolding guess spot slot_of fixed reserved operators bytes
returns-in-231 c = search guess-laws

pub returns-in-66 : goal.returns-in-66
unfolding guess spot slot_of fixed reserved operators bytes
returns-in-66 c = search guess-laws

pub returns-in-167 : goal.returns-in-167
unfolding guess spot slot_of fixed reserved operators bytes
returns-in-167 c = search guess-laws

pub returns-in-18 : goal.returns-in-18
unfolding guess spot slot_of fixed reserved operators bytes
returns-in-18 c = search guess-laws

pub returns-in-96 : goal.returns-in-96
unfolding guess spot slot_of fixed reserved operators bytes
returns-in-96 c = search guess-laws

pub returns-in-27 : goal.returns-in-27
unfolding guess spot slot_of fixed reserved operators bytes
returns-in-27 c = search guess-laws

pub returns-in-251 : goal.returns-in-251
unfolding guess spot slot_of fixed reserved operators bytes
returns-in-251 c = search guess-laws

pub returns-in-115 : goal.returns-in-115
unfolding guess spot slot_of fixed reserved operators bytes
returns-in-115 c = search guess-laws

pub returns-in-132 : goal.returns-in-132
unfolding guess spot slot_of fixed reserved operators bytes
returns-in-132 c = search guess-laws

pub returns-in-25 : goal.returns-in-25
unfolding guess spot slot_of fixed reserved operators bytes
returns-in-25 c = search guess-laws

pub returns-in-212 : goal.returns-in-212
unfolding guess spot slot_of fixed reserved operators bytes
returns-in-212 c = search guess-laws

pub returns-in-138 : goal.returns-in-138
unfolding guess spot slot_of fixed reserved operators bytes
returns-in-138 c = search guess-laws

pub returns-in-125 : goal.returns-in-125
unfolding guess spot slot_of fixed reserved operators bytes
returns-in-125 c = search guess-laws

pub returns-in-77 : goal.returns-in-77
unfolding guess spot slot_of fixed reserved operators bytes
returns-in-77 c = search guess-laws

pub returns-in-21 : goal.returns-in-21
unfolding guess spot slot_of fixed reserved operators bytes
returns-in-21 c = search guess-laws

pub returns-in-26 : goal.returns-in-26
unfolding guess spot slot_of fixed reserved operators bytes
returns-in-26 c = search guess-laws

pub returns-in-205 : goal.returns-in-205
unfolding guess spot slot_of fixed reserved operators bytes
returns-in-205 c = search guess-laws

pub returns-in-10 : goal.returns-in-10
unfolding guess spot slot_of fixed reserved operators bytes
returns-in-10 c = search guess-laws

pub returns-in-101 : goal.returns-in-101
unfolding guess spot slot_of fixed reserved operators bytes
returns-in-101 c = search guess-laws

pub returns-in-186 : goal.returns-in-186
unfolding guess spot slot_of fixed reserved operators bytes
returns-in-186 c = search guess-laws

pub returns-in-53 : goal.returns-in-53
unfolding guess spot slot_of fixed reserved operators bytes
returns-in-53 c = search guess-laws

pub returns-in-234 : goal.returns-in-234
unfolding guess spot slot_of fixed reserved operators bytes
returns-in-234 c = search guess-laws

pub returns-in_default : goal.returns-in_default
unfolding guess spot slot_of fixed reserved operators bytes
returns-in_default c = search guess-laws
