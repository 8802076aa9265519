mod Forming
