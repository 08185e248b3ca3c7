-- §2, §7, §8 and §11: the two sources, and the opcodes by name.
use Rattle.std.specs.Prelude.{ℕ}

abbrev pub host : ℕ
host = 4

abbrev pub reader : ℕ
reader = 0

abbrev pub cmd_ack : ℕ
cmd_ack = 0xD0

abbrev pub cmd_nak : ℕ
cmd_nak = 0xD1

abbrev pub decode_data : ℕ
decode_data = 0xF3

abbrev pub param_send : ℕ
param_send = 0xC6

abbrev pub param_request : ℕ
param_request = 0xC7

abbrev pub param_defaults : ℕ
param_defaults = 0xC8

abbrev pub aim_off : ℕ
aim_off = 0xC4

abbrev pub aim_on : ℕ
aim_on = 0xC5

abbrev pub start_session : ℕ
start_session = 0xE4

abbrev pub stop_session : ℕ
stop_session = 0xE5

abbrev pub beep : ℕ
beep = 0xE6

abbrev pub led_on : ℕ
led_on = 0xE7

abbrev pub led_off : ℕ
led_off = 0xE8

abbrev pub scan_enable : ℕ
scan_enable = 0xE9

abbrev pub scan_disable : ℕ
scan_disable = 0xEA
