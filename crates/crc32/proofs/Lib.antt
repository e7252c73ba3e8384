-- Lemmas on the table of CRC-32 and on eight bits at a time. The functions of crc32 cite them.
mod Table
mod EightBits
