mod Switches
