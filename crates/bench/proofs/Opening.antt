-- Every definition that a computed run opens, under one name. Assumes nothing.
use Prim.Native.Nat.{ℕ}
use Rattle.words.specs.Lists as lists
use Rattle.words.specs.Machine.{after, through, given}
use Rattle.packet.specs.Packet as packet
use Rattle.packet.specs.Refusals.{nak_bytes}
use Rattle.framer.specs.Framer as framer
use Rattle.framer.specs.Behind.{framed}
use Rattle.hub.specs.Joiner as joiner
use Rattle.hub.specs.Hub as hub
use Rattle.sender.specs.Pieces as pieces
use Rattle.sender.specs.Sender as sender
use Rattle.table.specs.Rows as rows
use Rattle.table.specs.Table as table
use Rattle.commands.specs.Beeps as beeps
use Rattle.commands.specs.Commands as commands
use Rattle.reader.specs.Reader as whole-end

unfoldable pub opening : ℕ
unfolding packet.body_of packet.sum_of packet.checksum_of packet.seal packet.body_in packet.data_in packet.head_in packet.checksum_in packet.status_allowed packet.check_of packet.source_allowed packet.fields_of packet.build_of packet.written packet.reply_data packet.reply_opcode packet.reply_body packet.unmarked packet.marked packet.equal_unmarked packet.resent_equal packet.is_answer framer.judged framer.at_gap framer.at_byte framer.framer_step hub.decode_step hub.packet_step hub.heard_step hub.cleared hub.hub_step nak_bytes joiner.type_in joiner.piece_in joiner.other_type joiner.bytes_of joiner.barring joiner.joined joiner.adding joiner.join_step pieces.next_size pieces.cut_by pieces.pieces_from pieces.pieces_of pieces.bodies_of pieces.packets_of sender.some sender.gap_due sender.begins sender.start_step sender.fails sender.resends sender.out_step sender.sender_step sender.heed_of rows.rows rows.place_in rows.supported rows.trigger_allowed rows.range_allowed rows.row_allows rows.allowed rows.defaults_of table.behind table.read_pairs table.is_read table.send_length_allowed table.request_length_allowed table.locked_in table.settable table.all_settable table.set_all table.changed table.set_pairs table.defaults table.restored table.set_defaults table.power_up table.value_of table.member table.asked_for table.numbers_of table.answered_numbers table.pair_bytes table.answer_data beeps.beep_rows beeps.beep_allowed beeps.send_beep_allowed beeps.row_of commands.named_by commands.length_allowed commands.session_started commands.session_stopped commands.scanning_to commands.aim_to commands.led_to commands.reported commands.after_send commands.send_command commands.beep_command commands.effect whole-end.handshake whole-end.if_handshake whole-end.request_bytes whole-end.no_packet_step whole-end.is_request whole-end.answer_to whole-end.acts whole-end.command_step whole-end.known_step whole-end.named_step whole-end.judged_step whole-end.sender_hears whole-end.packet_step whole-end.heard_step whole-end.reader_step whole-end.with_core whole-end.start_message whole-end.time_out whole-end.power_up_reader lists.over lists.over_at lists.same_bytes after through given framed
opening = 0
